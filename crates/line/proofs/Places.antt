-- Where the first flag stands, and what stands in front of it.
use Rattle.std.proofs.Common.{◌≡◌, ℕ, zero, suc, ◌+◌, ◌-◌, ◌<◌, ◌≤◌, Bool, true, false, ◌&&◌, List, [], ◌∷◌, length, take, drop, Some, None, sym, refl, ap, ◌∙◌, inl, inr, arith}
use Rattle.std.proofs.lemmas.List.{drop-drop, length-drop}
use Rattle.std.proofs.lemmas.List.FromFn.{length-map-range_with_len}
use Rattle.std.proofs.lemmas.Bool.{cond-true, cond-false, cases_Bool, true≢false, and_parts}
use Rattle.line.specs.Bits.{decoded, heard}
use Rattle.line.specs.Flags.{flag, starts, first_flag, past_flags}
use Rattle.line.specs.Stuffing.{prepend}
use Rattle.line.proofs.Runs.{front}

-- decoded bits from a place on
pub heard-more : (os : List ℕ) (k n : ℕ) → k < n → heard os k (n - k) ≡ decoded os k ∷ heard os (k + 1) (n - (k + 1))
heard-more os k n h = let e : n - k ≡ suc (n - (k + 1)) = omega arith in rw e

pub heard-none : (os : List ℕ) (k n : ℕ) → n ≤ k → heard os k (n - k) ≡ []
heard-none os k n h = let e : n - k ≡ 0 = omega arith in rw e

pub drop-heard : (j : ℕ) (os : List ℕ) (k n : ℕ) → drop j (heard os k n) ≡ heard os (k + j) (n - j)
drop-heard zero os k n = let a : k + 0 ≡ k = omega arith in let b : n - 0 ≡ n = omega arith in rw (a, b)
drop-heard (suc j) os k zero = let e : 0 - suc j ≡ 0 = omega arith in rw e
drop-heard (suc j) os k (suc n) =
    let a : k + 1 + j ≡ k + suc j = omega arith in
    let b : suc n - suc j ≡ n - j = omega arith in
    drop-heard j os (k + 1) n ∙ rw (a, b)

pub heard-from : (os : List ℕ) (k n : ℕ) → drop k (heard os 0 n) ≡ heard os k (n - k)
heard-from os k n = let a : 0 + k ≡ k = omega arith in drop-heard k os 0 n ∙ rw a

pub length-heard : (os : List ℕ) (k n : ℕ) → length (heard os k n) ≡ n
length-heard os k n = length-map-range_with_len (decoded os) k n

and_false : (x y : Bool) → y ≡ false → (x && y) ≡ false
and_false true y e = e
and_false false y e = refl

-- a flag is eight bits long
too_few : (xs ys : List Bool) → length ys < length xs → starts xs ys ≡ false
unfolding starts
too_few [] ys h = absurd (omega arith)
too_few (x ∷ xs) [] h = refl
too_few (x ∷ xs) (y ∷ ys) h = and_false _ _ (too_few xs ys (omega arith))

pub no_room : (k : ℕ) (xs : List Bool) → length xs ≤ 7 → first_flag k xs ≡ None
unfolding first_flag
no_room k [] h = refl
no_room k (x ∷ xs) h = cond-false _ _ _ (too_few flag (x ∷ xs) (omega arith)) ∙ no_room (k + 1) xs (omega arith)

none-some : {A : Type 0} (x : A) → None ≡ Some x → ⊥
none-some x e = let z : ◌≡◌ {A = ℕ} 0 1 = cc in omega arith

some_same : {A : Type 0} (x y : A) → Some x ≡ Some y → x ≡ y
some_same x y e = cc

-- the first flag is not in front of where it is looked for
pub not_before : (k c : ℕ) (xs : List Bool) → first_flag k xs ≡ Some c → k ≤ c
unfolding first_flag
not_before k c [] e = absurd (none-some c e)
not_before k c (x ∷ xs) e =
    elim (cases_Bool (starts flag (x ∷ xs))) [
      | inl t ↦ let s = some_same k c (sym (cond-true _ _ _ t) ∙ e) in omega arith
      | inr f ↦ let l = not_before (k + 1) c xs (sym (cond-false _ _ _ f) ∙ e) in omega arith
    ]

-- no flag at the front, where the first is none or further on
pub none_here : (k : ℕ) (xs : List Bool) → first_flag k xs ≡ None → starts flag xs ≡ false
unfolding first_flag starts
none_here k [] e = refl
none_here k (x ∷ xs) e = elim (cases_Bool (starts flag (x ∷ xs))) [ inl t ↦ absurd (none-some k (sym e ∙ cond-true _ _ _ t)) | inr f ↦ f ]

pub later-here : (k c : ℕ) (xs : List Bool) → first_flag k xs ≡ Some c → k < c → starts flag xs ≡ false
unfolding first_flag starts
later-here k c [] e h = refl
later-here k c (x ∷ xs) e h =
    elim (cases_Bool (starts flag (x ∷ xs))) [ inl t ↦ let s = some_same k c (sym (cond-true _ _ _ t) ∙ e) in absurd (omega arith) | inr f ↦ f ]

pub first-here : (k : ℕ) (xs : List Bool) → first_flag k xs ≡ Some k → starts flag xs ≡ true
unfolding first_flag
first-here k [] e = absurd (none-some k e)
first-here k (x ∷ xs) e =
    elim (cases_Bool (starts flag (x ∷ xs))) [
      | inl t ↦ t
      | inr f ↦ let l = not_before (k + 1) k xs (sym (cond-false _ _ _ f) ∙ e) in absurd (omega arith)
    ]

-- what stands in front of it
pub front-is : (k c : ℕ) (xs : List Bool) → first_flag k xs ≡ Some c → front xs ≡ Some (take (c - k) xs)
unfolding first_flag front
front-is k c [] e = absurd (none-some c e)
front-is k c (x ∷ xs) e =
    elim (cases_Bool (starts flag (x ∷ xs))) [
      | inl t ↦
          let s = some_same k c (sym (cond-true _ _ _ t) ∙ e) in
          let z : c - k ≡ 0 = omega arith in
          cond-true _ _ _ t ∙ rw z
      | inr f ↦
          let e' = sym (cond-false _ _ _ f) ∙ e in
          let l = not_before (k + 1) c xs e' in
          let z : c - k ≡ suc (c - (k + 1)) = omega arith in
          cond-false _ _ _ f ∙ ap (prepend (x ∷ [])) (front-is (k + 1) c xs e') ∙ rw z
    ]

-- the place behind flags
pub no_more-flags : (m k : ℕ) (xs : List Bool) → starts flag xs ≡ false → past_flags m k xs ≡ k
unfolding past_flags
no_more-flags zero k xs f = refl
no_more-flags (suc m) k xs f = cond-false _ _ _ f

pub one-more-flag : (m k : ℕ) (xs : List Bool) → starts flag xs ≡ true → past_flags (suc m) k xs ≡ past_flags m (k + 8) (drop 8 xs)
unfolding past_flags
one-more-flag m k xs t = cond-true _ _ _ t

-- a flag stands where the first is found
pub flag-there : (k c : ℕ) (xs : List Bool) → first_flag k xs ≡ Some c → starts flag (drop (c - k) xs) ≡ true
unfolding first_flag
flag-there k c [] e = absurd (none-some c e)
flag-there k c (x ∷ xs) e =
    elim (cases_Bool (starts flag (x ∷ xs))) [
      | inl t ↦
          let s = some_same k c (sym (cond-true _ _ _ t) ∙ e) in
          let z : c - k ≡ 0 = omega arith in
          rw z t
      | inr f ↦
          let e' = sym (cond-false _ _ _ f) ∙ e in
          let l = not_before (k + 1) c xs e' in
          let z : c - k ≡ suc (c - (k + 1)) = omega arith in
          rw z (flag-there (k + 1) c xs e')
    ]

starts_long : (xs ys : List Bool) → starts xs ys ≡ true → length xs ≤ length ys
unfolding starts
starts_long [] ys t = omega arith
starts_long (x ∷ xs) [] t = absurd (true≢false (sym t))
starts_long (x ∷ xs) (y ∷ ys) t = let h = starts_long xs ys (and_parts _ _ t).1 in omega arith

-- and all of it lies in the bits
pub flag-inside : (k c : ℕ) (bits : List Bool) → first_flag k (drop k bits) ≡ Some c → (starts flag (drop c bits) ≡ true) × (c + 8 ≤ length bits)
flag-inside k c bits e =
    let l = not_before k c (drop k bits) e in
    let d : k + (c - k) ≡ c = omega arith in
    let t : starts flag (drop c bits) ≡ true = ap (λ j. starts flag (drop j bits)) (sym d) ∙ ap (starts flag) (sym (drop-drop (c - k) k bits)) ∙ flag-there k c (drop k bits) e in
    let s = starts_long flag (drop c bits) t in
    let n = length-drop c bits in
    (t, omega arith)
