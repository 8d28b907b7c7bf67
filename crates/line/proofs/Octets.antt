-- Octets are known by their bits.
use Rattle.std.proofs.Common.{◌≡◌, ℕ, zero, suc, ◌/◌, ◌%◌, ◌^◌, ◌<◌, cond, List, [], ◌∷◌, length, sym, refl, ap, ◌∙◌, inl, inr, arith}
use Rattle.std.specs.List.{AllByRecursion as All}
use Rattle.std.proofs.lemmas.List.{take_at, drop_at}
use Rattle.std.proofs.lemmas.Bool.{cond-true, cond-false, cases_eq, eq-eqb, ne_eqb}
use Rattle.line.specs.Bits.{odd, low, bits_of, number, octets_of, octets_in}
use Rattle.line.proofs.Lengths.{length-low, length_bits_of}
use Rattle.line.proofs.Pack.{pow_suc}

odd_number : (x : ℕ) → cond (odd x) 1 0 ≡ x % 2
odd_number x = elim (cases_eq (x % 2) 1) [
  | inl e ↦ cond-true (odd x) 1 0 (eq-eqb (x % 2) 1 e) ∙ sym e
  | inr e ↦ let z : x % 2 ≡ 0 = omega arith in cond-false (odd x) 1 0 (ne_eqb (x % 2) 1 e) ∙ sym z
]

number-low : (n x : ℕ) → x < 2 ^ n → number (low n x) ≡ x
unfolding number low
number-low zero x h = omega arith
number-low (suc n) x h =
    let half : x / 2 < 2 ^ n = omega (arith, pow_suc n) in
    let r = number-low n (x / 2) half in
    let o = odd_number x in
    omega arith

octets_of_lem : (os : List ℕ) → All (λ o. o < 256) os → octets_of (length os) (bits_of os) ≡ os
unfolding octets_of bits_of
octets_of_lem [] a = refl
octets_of_lem (o ∷ os) a =
    let t = take_at (low 8 o) (bits_of os) 8 (length-low 8 o) in
    let d = drop_at (low 8 o) (bits_of os) 8 (length-low 8 o) in
    rw (t, d, number-low 8 o a.0) (ap (λ z. o ∷ z) (octets_of_lem os a.1))

pub octets-back : (os : List ℕ) → All (λ o. o < 256) os → octets_in (bits_of os) ≡ os
unfolding octets_in
octets-back os a =
    let l = length_bits_of os in
    let n : length (bits_of os) / 8 ≡ length os = omega arith in
    ap (λ k. octets_of k (bits_of os)) n ∙ octets_of_lem os a
