-- The strings of a message, met head by head.
use Rattle.std.proofs.Common.{◌≡◌, ℕ, zero, suc, ◌<◌, ◌≤◌, true, false, cond, ltb, List, length, Some, None, sym, refl, ap, arith}
use Rattle.std.proofs.lemmas.Bool.Decides.{nat_tests}
use Rattle.message.specs.Sizes.{next_head, onward, strings_fit}

module _ (os : List ℕ) (p : ℕ) where
  -- behind the end nothing is met
  pub fit_past : (n : ℕ) → length os ≤ p → strings_fit n os p ≡ true
  unfolding strings_fit
  fit_past zero h = refl
  fit_past (suc n) h = let e : ltb p (length os) ≡ false = grind (arith, nat_tests) in ap (λ b. cond b (onward (next_head os p) (strings_fit n os)) true) e

  -- before it the head there is met
  pub fit_one : (n : ℕ) → p < length os → strings_fit (suc n) os p ≡ onward (next_head os p) (strings_fit n os)
  unfolding strings_fit
  fit_one n h = let e : ltb p (length os) ≡ true = grind (arith, nat_tests) in rw e

  -- a string that is too long ends the way
  pub fit_none : (n : ℕ) → 1 ≤ n → p < length os → None ≡ next_head os p → strings_fit n os p ≡ false
  fit_none zero some h is = absurd (omega arith)
  fit_none (suc n) some h is = rw (fit_one n h, sym is)

  -- any other head is passed
  pub fit_some : (m n r : ℕ) → m ≡ suc n → p < length os → Some r ≡ next_head os p → strings_fit m os p ≡ strings_fit n os r
  fit_some m n r more h is = rw (more, fit_one n h, sym is)

pub fit_end : (m : ℕ) (os : List ℕ) (p : ℕ) → m ≡ 0 → strings_fit m os p ≡ true
unfolding strings_fit
fit_end m os p e = ap (λ k. strings_fit k os p) e
