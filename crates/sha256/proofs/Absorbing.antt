-- What a hash has seen, one block, one octet and the padding on.
use Rattle.std.proofs.Common.{◌≡◌, ℕ, zero, suc, ◌+◌, ◌-◌, ◌*◌, ◌/◌, ◌%◌, ◌^◌, ◌<◌, ◌≤◌, List, [], ◌∷◌, ◌++◌, length, take, drop, replicate, sym, refl, ap, ◌∙◌, subst, add-one, arith}
use Rattle.std.proofs.lemmas.List.{length-append, length-drop, length-replicate, drop-append-le, take-append-le, take-replicate, drop_at, take_all, drop_all, append_assoc, take-append-drop}
use Rattle.std.proofs.lemmas.Nat.{mod-pow-add, field_of}
use Rattle.sha256.specs.declared.state.Sha256.{Sha256}
use Rattle.sha256.specs.Sha256.{hashed, compressed, block_of, padded, octets_of64, digest_octets, sha256_of}
use Rattle.sha256.specs.Absorbed.{Absorbed}

pub no_items : (xs : List ℕ) → length xs ≡ 0 → xs ≡ []
no_items [] l = refl
no_items (x ∷ xs) l = absurd (omega (arith, l))

pub block_append : (m x : List ℕ) (n : ℕ) → 64 * n + 64 ≤ length m → block_of (m ++ x) n ≡ block_of m n
unfolding block_of
block_append m x n h =
    let l : 64 * n ≤ length m = omega arith in
    let k : 64 ≤ length (drop (64 * n) m) = simp length-drop (omega arith) in
    ap (take 64) (drop-append-le (64 * n) m x l) ∙ take-append-le 64 (drop (64 * n) m) x k

pub hashed-more : (n : ℕ) (m : List ℕ) → hashed (n + 1) m ≡ compressed (hashed n m) (block_of m n)
unfolding hashed
hashed-more n m = rw add-one

pub hashed-append : (n : ℕ) (m x : List ℕ) → 64 * n ≤ length m → hashed n (m ++ x) ≡ hashed n m
unfolding hashed
hashed-append zero m x h = refl
hashed-append (suc n) m x h =
    let a = hashed-append n m x (omega arith) in
    let b = block_append m x n (omega arith) in
    cc

pub total-more : (t n k : ℕ) → t ≡ n % 2 ^ 64 → (t + k) % 2 ^ 64 ≡ (n + k) % 2 ^ 64
total-more t n k e = omega arith

-- a whole block, where none is begun
pub holds_block : (s t : Sha256) (seen block : List ℕ) → length s.part.items ≡ 0 → length block ≡ 64
    → t.part.items ≡ [] → t.total ≡ (s.total + 64) % 2 ^ 64 → t.hash ≡ compressed s.hash block
    → Absorbed s seen → Absorbed t (seen ++ block)
unfolding block_of
holds_block s t seen block none l f n e h =
    let k = length-append seen block in
    let len : length seen ≡ 64 * h.blocks = omega (arith, h.count) in
    let c : length (seen ++ block) ≡ 64 * (h.blocks + 1) + length t.part.items = omega (arith, ap length f) in
    let m = hashed-more h.blocks (seen ++ block) in
    let a = hashed-append h.blocks seen block (omega arith) in
    let d = drop_at seen block (64 * h.blocks) len in
    let w = take_all 64 block (omega arith) in
    let z = drop_all (64 * (h.blocks + 1)) (seen ++ block) (omega arith) in
    let q = h.hash in
    record {
      blocks = h.blocks + 1;
      count = c;
      total = n ∙ total-more s.total (length seen) 64 h.total ∙ omega arith;
      hash = cc;
      rest = f ∙ sym z;
    }

-- octets behind those of the block begun, which they do not fill
pub holds-part : (s t : Sha256) (seen octets : List ℕ)
    → t.part.items ≡ s.part.items ++ octets → t.total ≡ (s.total + length octets) % 2 ^ 64 → t.hash ≡ s.hash
    → Absorbed s seen → Absorbed t (seen ++ octets)
holds-part s t seen octets p n e h =
    let k = length-append seen octets in
    let f : length t.part.items ≡ length s.part.items + length octets = ap length p ∙ length-append s.part.items octets in
    let q = h.count in
    let a = hashed-append h.blocks seen octets (omega arith) in
    let d = drop-append-le (64 * h.blocks) seen octets (omega arith) in
    let r = h.rest in
    let g = h.hash in
    record {
      blocks = h.blocks;
      count = omega arith;
      total = n ∙ total-more s.total (length seen) (length octets) h.total ∙ ap (λ m. m % 2 ^ 64) (sym k);
      hash = cc;
      rest = cc;
    }

-- octets that fill it
pub holds-whole : (s t : Sha256) (seen octets block : List ℕ) → length block ≡ 64 → block ≡ s.part.items ++ octets
    → t.part.items ≡ [] → t.total ≡ (s.total + length octets) % 2 ^ 64 → t.hash ≡ compressed s.hash block
    → Absorbed s seen → Absorbed t (seen ++ octets)
unfolding block_of
holds-whole s t seen octets block l p f n e h =
    let k = length-append seen octets in
    let fills : length s.part.items + length octets ≡ 64 = sym (length-append s.part.items octets) ∙ ap length (sym p) ∙ l in
    let none : length t.part.items ≡ 0 = ap length f in
    let q = h.count in
    let a = hashed-append h.blocks seen octets (omega arith) in
    let d = drop-append-le (64 * h.blocks) seen octets (omega arith) in
    let w = take_all 64 block (omega arith) in
    let z = drop_all (64 * (h.blocks + 1)) (seen ++ octets) (omega arith) in
    let y = hashed-more h.blocks (seen ++ octets) in
    let r = h.rest in
    let g = h.hash in
    record {
      blocks = h.blocks + 1;
      count = omega arith;
      total = n ∙ total-more s.total (length seen) (length octets) h.total ∙ ap (λ m. m % 2 ^ 64) (sym k);
      hash = cc;
      rest = f ∙ sym z;
    }

pub octet_of_lem : (y i k : ℕ) → y % 2 ^ ((i + 8) + k) / 2 ^ k % 256 ≡ y / 2 ^ k % 256
octet_of_lem y i k = let m = mod-pow-add (y / 2 ^ k) i 8 in rw (field_of y (i + 8) k) (omega arith)

pub bits_of : (t n : ℕ) → t ≡ n % 2 ^ 64 → octets_of64 ((t * 8) % 2 ^ 64) ≡ octets_of64 (8 * n)
unfolding octets_of64
bits_of t n e =
    let x : (t * 8) % 2 ^ 64 ≡ (8 * n) % 2 ^ 64 = omega arith in
    let o7 = octet_of_lem (8 * n) 0 56 in
    let o6 = octet_of_lem (8 * n) 8 48 in
    let o5 = octet_of_lem (8 * n) 16 40 in
    let o4 = octet_of_lem (8 * n) 24 32 in
    let o3 = octet_of_lem (8 * n) 32 24 in
    let o2 = octet_of_lem (8 * n) 40 16 in
    let o1 = octet_of_lem (8 * n) 48 8 in
    let o0 : (8 * n) % 2 ^ 64 % 256 ≡ 8 * n % 256 = omega arith in
    cc

pub length-padded : (m : List ℕ) → length (padded m) % 64 ≡ 0
unfolding padded octets_of64
length-padded m = simp (length-append, length-replicate) (omega arith)

pub holds-padded : (s : Sha256) (seen : List ℕ) → length s.part.items < 64 → Absorbed s (padded seen) → digest_octets s.hash ≡ sha256_of seen
unfolding sha256_of
holds-padded s seen l h =
    let p = length-padded seen in
    let q = h.count in
    let b : h.blocks ≡ length (padded seen) / 64 = omega arith in
    let g = h.hash in
    cc

pub cut_at : (n : ℕ) (rest piece behind : List ℕ) → piece ≡ take n rest → behind ≡ drop n rest → rest ≡ piece ++ behind
cut_at n rest piece behind p b = sym (take-append-drop n rest) ∙ (λ i. sym p i ++ sym b i)

-- the front of what is left, taken
pub taken_more : (t : Sha256) {s : Sha256} (seen octets rest piece behind : List ℕ) → rest ≡ piece ++ behind
    → (taken : List ℕ) × (octets ≡ taken ++ rest) × Absorbed s (seen ++ taken) → ((before : List ℕ) → Absorbed s before → Absorbed t (before ++ piece))
    → (taken : List ℕ) × (octets ≡ taken ++ behind) × Absorbed t (seen ++ taken)
taken_more t seen octets rest piece behind e sofar takes = (
  sofar.0 ++ piece,
  sofar.1 ∙ ap (λ x. sofar.0 ++ x) e ∙ sym (append_assoc sofar.0 piece behind),
  subst (Absorbed t) (append_assoc seen sofar.0 piece) (takes (seen ++ sofar.0) sofar.2),
)

-- the 0 bits behind the 1 bit
pub zeros_of : (n : ℕ) → n < 64 → take {A = ℕ} n (replicate 64 0) ≡ replicate n 0
zeros_of n l = take-replicate n 64 0 (omega arith)

pub finished : (s t : Sha256) (seen zeros bits : List ℕ) → length s.part.items < 64 → length t.part.items < 64 → bits ≡ octets_of64 ((s.total * 8) % 2 ^ 64) → zeros ≡ replicate ((119 - length s.part.items) % 64) 0
    → Absorbed s seen → Absorbed t (((seen ++ 0x80 ∷ []) ++ zeros) ++ bits) → digest_octets t.hash ≡ sha256_of seen
unfolding padded
finished s t seen zeros bits f g b z h k =
    let q = h.count in
    let r : (119 - length s.part.items) % 64 ≡ (119 - length seen % 64) % 64 = omega arith in
    let zs : zeros ≡ replicate ((119 - length seen % 64) % 64) 0 = z ∙ ap (λ n. replicate n 0) r in
    let bs : bits ≡ octets_of64 (8 * length seen) = b ∙ bits_of s.total (length seen) h.total in
    let e : ((seen ++ 0x80 ∷ []) ++ zeros) ++ bits ≡ padded seen = (λ i. ((seen ++ 0x80 ∷ []) ++ zs i) ++ bs i) in
    holds-padded t seen g (rw e at k)
