-- The tones of a burst are decoded to the bits that were sent.
use Rattle.std.proofs.Common.{◌≡◌, ℕ, zero, suc, ◌+◌, ◌-◌, ◌*◌, ◌/◌, ◌%◌, ◌^◌, ◌<◌, ◌≤◌, Bool, true, false, List, [], ◌∷◌, map, length, get_or, take, drop, sym, refl, ap, ◌∙◌, subst, inl, inr, not-suc-le-zero, add-one, one-add, arith}
use mathlib.Core.Bool.{beq}
use Rattle.std.specs.List.{range_with_len}
use Rattle.std.proofs.lemmas.List.{take_at, length-take-le, get_or-take, get_or_append_left, get_or-append_right, take-append-le, take-append-drop}
use Rattle.std.proofs.lemmas.List.FromFn.{fill_by_all}
use Rattle.std.proofs.lemmas.Nat.{shr-shr}
use Rattle.std.proofs.lemmas.Bool.{cases_lt}
use Rattle.line.specs.Bits.{odd, low, bits_of, tone, tone_before, decoded, heard, bits_in}
use Rattle.line.specs.Burst.{tones, toned, octet_count, Written}
use Rattle.line.proofs.Lengths.{length-low, length_bits_of}
use Rattle.line.proofs.Pack.{bits_of_append}

-- bits from tones, behind the tone `last`
unfoldable bits_from : Bool → List Bool → List Bool
bits_from last [] = []
bits_from last (t ∷ ts) = beq t last ∷ bits_from t ts

tones-back : (t : Bool) (bits : List Bool) → bits_from t (tones t bits) ≡ bits
unfolding bits_from tones
tones-back t [] = refl
tones-back true (true ∷ bits) = ap (λ z. true ∷ z) (tones-back true bits)
tones-back true (false ∷ bits) = ap (λ z. false ∷ z) (tones-back false bits)
tones-back false (true ∷ bits) = ap (λ z. true ∷ z) (tones-back false bits)
tones-back false (false ∷ bits) = ap (λ z. false ∷ z) (tones-back true bits)

low-at : (n i x : ℕ) → i < n → get_or (low n x) i false ≡ odd (x / 2 ^ i)
unfolding low
low-at zero i x h = absurd (not-suc-le-zero h)
low-at (suc n) zero x h = let e : x / 2 ^ 0 ≡ x = omega arith in rw e
low-at (suc n) (suc i) x h =
    let b : x / 2 / 2 ^ i ≡ x / 2 ^ suc i = rw (← one-add i) (shr-shr x 1 i) in
    low-at n i (x / 2) (omega arith) ∙ ap odd b

tone-at : (os : List ℕ) (k : ℕ) → k < 8 * length os → get_or (bits_of os) k false ≡ tone os k
unfolding bits_of tone
tone-at [] k h = absurd (omega arith)
tone-at (o ∷ os) k h =
    elim (cases_lt k 8) [
      | inl l ↦
          let q : k / 8 ≡ 0 = omega arith in
          let r : k % 8 ≡ k = omega arith in
          get_or_append_left (low 8 o) (bits_of os) false k (subst (λ n. k < n) (sym (length-low 8 o)) l) ∙ low-at 8 k o l ∙ rw (q, r) refl
      | inr g ↦
          let q : k / 8 ≡ suc ((k - 8) / 8) = omega arith in
          let r : k % 8 ≡ (k - 8) % 8 = omega arith in
          get_or-append_right (low 8 o) (bits_of os) 8 k false (length-low 8 o) g ∙ tone-at os (k - 8) (omega arith) ∙ rw (q, r) refl
    ]

tones-listed : (os : List ℕ) (n : ℕ) → n ≤ 8 * length os → take n (bits_of os) ≡ map (tone os) (range_with_len 0 n)
tones-listed os n h =
    let l = length_bits_of os in
    fill_by_all (tone os) (take n (bits_of os)) n false (length-take-le n (bits_of os) (omega arith))
    (λ k lt. get_or-take n (bits_of os) k false lt ∙ tone-at os k (omega arith))

decoded-listed : (os : List ℕ) (n k : ℕ) → heard os k n ≡ bits_from (tone_before os k) (map (tone os) (range_with_len k n))
unfolding bits_from decoded tone_before
decoded-listed os zero k = refl
decoded-listed os (suc n) k =
    let e : tone_before os (k + 1) ≡ tone os k = rw (add-one k) in
    ap (λ z. decoded os k ∷ z) (decoded-listed os n (k + 1) ∙ ap (λ t. bits_from t (map (tone os) (range_with_len (k + 1) n))) e)

length-tones : (t : Bool) (bits : List Bool) → length (tones t bits) ≡ length bits
unfolding tones
length-tones t [] = refl
length-tones t (b ∷ bits) = ap suc (length-tones (beq t b) bits)

front-bits : (j : ℕ) (os : List ℕ) (n : ℕ) → j ≤ length os → n ≤ 8 * j → take n (bits_of (take j os)) ≡ take n (bits_of os)
front-bits j os n h l =
    let a = length_bits_of (take j os) in
    let b = length-take-le j os h in
    sym (ap (λ z. take n (bits_of z)) (sym (take-append-drop j os)) ∙ ap (take n) (bits_of_append (take j os) (drop j os)) ∙ take-append-le n (bits_of (take j os)) (bits_of (drop j os)) (omega arith))

-- a buffer that holds the tones of bits is decoded to these bits
pub decodes : (bits : List Bool) (old new : List ℕ) → octet_count (length bits) ≤ length new → Written bits old new → bits_in new (length bits) ≡ bits
unfolding toned tone_before
decodes bits old new fits w =
    let n = length bits in
    let l = length-tones true bits in
    let a : take (length bits) (toned bits) ≡ tones true bits = take_at (tones true bits) _ (length bits) l in
    let b = front-bits (octet_count (length bits)) new (length bits) fits (omega arith) in
    let t : map (tone new) (range_with_len 0 (length bits)) ≡ tones true bits = sym (tones-listed new (length bits) (omega arith)) ∙ sym b ∙ ap (take (length bits)) w.tones ∙ a in
    decoded-listed new (length bits) 0 ∙ ap (bits_from true) t ∙ tones-back true bits
