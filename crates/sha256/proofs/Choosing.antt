-- The choice between two words, bit by bit, with one operation less.
use Rattle.std.proofs.Common.{◌≡◌, ℕ, zero, suc, ◌-◌, ◌*◌, ◌/◌, ◌%◌, ◌^◌, ◌<◌, sym, refl, ap, ◌∙◌, arith}
use lib.Bits.{bit_and, bit_xor, xor_shr, xor_mod}
use Rattle.std.proofs.lemmas.Nat.{and_shr, and_mod, pow-add}
use Rattle.sha256.specs.Sha256.{Ch, complement}

abbrev quick : ℕ → ℕ → ℕ → ℕ
quick x y z = bit_xor z (bit_and x (bit_xor y z))

abbrev chosen : ℕ → ℕ → ℕ → ℕ → ℕ
chosen ones x y z = bit_xor (bit_and x y) (bit_and (ones - x) z)

halves : (a b : ℕ) → a / 2 ≡ b / 2 → a % 2 ≡ b % 2 → a ≡ b
halves a b h l = omega arith

digit : (x y z : ℕ) → x < 2 → y < 2 → z < 2 → quick x y z ≡ chosen 1 x y z
digit zero zero zero a b c = refl
digit zero zero (suc zero) a b c = refl
digit zero (suc zero) zero a b c = refl
digit zero (suc zero) (suc zero) a b c = refl
digit (suc zero) zero zero a b c = refl
digit (suc zero) zero (suc zero) a b c = refl
digit (suc zero) (suc zero) zero a b c = refl
digit (suc zero) (suc zero) (suc zero) a b c = refl
digit zero zero (suc (suc z)) a b c = absurd (omega arith)
digit zero (suc zero) (suc (suc z)) a b c = absurd (omega arith)
digit (suc zero) zero (suc (suc z)) a b c = absurd (omega arith)
digit (suc zero) (suc zero) (suc (suc z)) a b c = absurd (omega arith)
digit zero (suc (suc y)) z a b c = absurd (omega arith)
digit (suc zero) (suc (suc y)) z a b c = absurd (omega arith)
digit (suc (suc x)) y z a b c = absurd (omega arith)

quick_half : (x y z : ℕ) → quick x y z / 2 ≡ quick (x / 2) (y / 2) (z / 2)
quick_half x y z = xor_shr z (bit_and x (bit_xor y z)) 1 ∙ ap (bit_xor (z / 2)) (and_shr x (bit_xor y z) 1 ∙ ap (bit_and (x / 2)) (xor_shr y z 1))

quick-low : (x y z : ℕ) → quick x y z % 2 ≡ quick (x % 2) (y % 2) (z % 2)
quick-low x y z = xor_mod z (bit_and x (bit_xor y z)) 1 ∙ ap (bit_xor (z % 2)) (and_mod x (bit_xor y z) 1 ∙ ap (bit_and (x % 2)) (xor_mod y z 1))

module _ (p x y z : ℕ) (below : x < p * 2) where
  chosen_half : chosen (p * 2 - 1) x y z / 2 ≡ chosen (p - 1) (x / 2) (y / 2) (z / 2)
  chosen_half =
      let n : (p * 2 - 1 - x) / 2 ≡ p - 1 - x / 2 = omega arith in
      xor_shr (bit_and x y) (bit_and (p * 2 - 1 - x) z) 1
      ∙ (λ i. bit_xor (and_shr x y 1 i) ((and_shr (p * 2 - 1 - x) z 1 ∙ ap (λ m. bit_and m (z / 2)) n) i))

  chosen-low : chosen (p * 2 - 1) x y z % 2 ≡ chosen 1 (x % 2) (y % 2) (z % 2)
  chosen-low =
      let n : (p * 2 - 1 - x) % 2 ≡ 1 - x % 2 = omega arith in
      xor_mod (bit_and x y) (bit_and (p * 2 - 1 - x) z) 1
      ∙ (λ i. bit_xor (and_mod x y 1 i) ((and_mod (p * 2 - 1 - x) z 1 ∙ ap (λ m. bit_and m (z % 2)) n) i))

same : (k x y z : ℕ) → x < 2 ^ k → z < 2 ^ k → quick x y z ≡ chosen (2 ^ k - 1) x y z
same zero zero y zero h g = refl
same zero (suc x) y z h g = absurd (omega arith)
same zero zero y (suc z) h g = absurd (omega arith)
same (suc k) x y z h g =
    let p : ℕ = 2 ^ k in
    let e : 2 ^ suc k ≡ p * 2 = omega (arith, pow-add 2 k 1) in
    let hx : x < p * 2 = omega arith in
    halves (quick x y z) (chosen (p * 2 - 1) x y z)
    (quick_half x y z ∙ same k (x / 2) (y / 2) (z / 2) (omega arith) (omega arith) ∙ sym (chosen_half p x y z hx))
    (quick-low x y z ∙ digit (x % 2) (y % 2) (z % 2) (omega arith) (omega arith) (omega arith) ∙ sym (chosen-low p x y z hx))
    ∙ ap (λ m. chosen (m - 1) x y z) (sym e)

pub quick-choice : (x y z : ℕ) → x < 2 ^ 32 → z < 2 ^ 32 → bit_xor z (bit_and x (bit_xor y z)) ≡ Ch x y z
unfolding Ch complement
quick-choice x y z h g = same 32 x y z h g
