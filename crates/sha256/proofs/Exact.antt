-- The length field read back, and the digest's length.
use Rattle.std.proofs.Common.{◌≡◌, ℕ, ◌+◌, ◌*◌, ◌^◌, ◌<◌, List, length, fold, refl, arith}
use Rattle.std.proofs.lemmas.Nat.{shr-shr}
use Rattle.sha256.specs.declared.words.Words.{Words}
use Rattle.sha256.specs.Sha256.{octets_of64, octets_of32, octets_of_words, digest_octets}

pub read_back : (x : ℕ) → x < 2 ^ 64 → fold (λ n o. n * 256 + o) 0 (octets_of64 x) ≡ x
unfolding octets_of64
read_back x h =
    let s2 = shr-shr x 8 8 in
    let s3 = shr-shr x 16 8 in
    let s4 = shr-shr x 24 8 in
    let s5 = shr-shr x 32 8 in
    let s6 = shr-shr x 40 8 in
    let s7 = shr-shr x 48 8 in
    omega arith

pub length-exact : (m : List ℕ) → length m < 2 ^ 61 → fold (λ n o. n * 256 + o) 0 (octets_of64 (8 * length m)) ≡ 8 * length m
length-exact m h = read_back (8 * length m) (omega arith)

pub digest_length : (v : Words) → length (digest_octets v) ≡ 32
unfolding digest_octets octets_of_words octets_of32
digest_length v = refl
