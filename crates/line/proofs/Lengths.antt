-- How long bits and buffers are.
use Rattle.std.proofs.Common.{◌≡◌, ℕ, zero, suc, ◌+◌, ◌*◌, ◌≤◌, List, [], ◌∷◌, length, take, refl, ap, append-nil, arith}
use Rattle.std.proofs.lemmas.List.{length-append, length-take-le}
use Rattle.line.specs.Bits.{low, bits_of}
use Rattle.line.specs.Packing.{held}

pub length-low : (n x : ℕ) → length (low n x) ≡ n
unfolding low
length-low zero x = refl
length-low (suc n) x = ap suc (length-low n _)

pub length_bits_of : (os : List ℕ) → length (bits_of os) ≡ 8 * length os
unfolding bits_of
length_bits_of [] = refl
length_bits_of (o ∷ os) = let a = length-append (low 8 o) (bits_of os) in let b = length-low 8 o in let c = length_bits_of os in omega arith

pub length-held : (octets fill part : ℕ) (out : List ℕ) → octets ≤ length out → length (held octets fill part out) ≡ 8 * octets + fill
unfolding held
length-held octets fill part out h =
    let a = length-append (bits_of (take octets out)) (low fill part) in
    let b = length_bits_of (take octets out) in
    let c = length-low fill part in
    let d = length-take-le octets out h in
    omega arith

pub held-zero : (octets fill part : ℕ) (out : List ℕ) → fill ≡ 0 → held octets fill part out ≡ bits_of (take octets out)
unfolding held low
held-zero octets fill part out z = rw z (append-nil (bits_of (take octets out)))
