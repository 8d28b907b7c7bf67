-- The first flag, as a function and as a relation.
use Rattle.std.proofs.Common.{◌≡◌, ℕ, zero, suc, ◌+◌, ◌-◌, ◌<◌, Bool, true, false, List, [], ◌∷◌, length, take, drop, Some, None, Option, sym, refl, ap, ◌∙◌, subst, inl, inr, arith}
use mathlib.Core.Bool.{beq}
use Rattle.std.proofs.lemmas.List.{drop-drop}
use Rattle.std.proofs.lemmas.Bool.{cond-true, cond-false, cases_Bool, cases_order, both_ways, true≢false, and_parts, and_from}
use Rattle.line.specs.Flags.{flag, starts, first_flag, closing, FlagAt, FirstAt}
use Rattle.line.proofs.Places.{not_before, flag-inside}
use Rattle.line_laws.specs.Passing.{Closing}

beq_same : (x y : Bool) → beq x y ≡ true → x ≡ y
beq_same true true e = refl
beq_same true false e = absurd (true≢false (sym e))
beq_same false true e = absurd (true≢false (sym e))
beq_same false false e = refl

beq_refl : (x : Bool) → beq x x ≡ true
beq_refl true = refl
beq_refl false = refl

-- bits that begin with others have them in front
starts-front : (xs ys : List Bool) → starts xs ys ≡ true → take (length xs) ys ≡ xs
unfolding starts
starts-front [] ys t = refl
starts-front (x ∷ xs) [] t = absurd (true≢false (sym t))
starts-front (x ∷ xs) (y ∷ ys) t =
    let p = and_parts (beq x y) (starts xs ys) t in
    let e = beq_same x y p.0 in
    let r = starts-front xs ys p.1 in
    cc

front-starts : (xs ys : List Bool) → take (length xs) ys ≡ xs → starts xs ys ≡ true
unfolding starts
front-starts [] ys e = refl
front-starts (x ∷ xs) [] e = let z : ◌≡◌ {A = ℕ} 0 1 = cc in absurd (omega arith)
front-starts (x ∷ xs) (y ∷ ys) e =
    let p : x ≡ y = cc in
    let q : take (length xs) ys ≡ xs = cc in
    and_from (beq x y) (starts xs ys) (subst (λ z. beq x z ≡ true) p (beq_refl x)) (front-starts xs ys q)

pub flag-stands : (bits : List Bool) (k : ℕ) → starts flag (drop k bits) ≡ true → FlagAt bits k
flag-stands bits k t = starts-front flag (drop k bits) t

pub stands-flag : (bits : List Bool) (k : ℕ) → FlagAt bits k → starts flag (drop k bits) ≡ true
stands-flag bits k e = front-starts flag (drop k bits) e

none-some : (x : ℕ) → None ≡ Some x → ⊥
none-some x e = let z : ◌≡◌ {A = ℕ} 0 1 = cc in omega arith

-- no flag in front of the first
none-earlier : (k c : ℕ) (xs : List Bool) → first_flag k xs ≡ Some c → (j : ℕ) → k + j < c → starts flag (drop j xs) ≡ false
unfolding first_flag
none-earlier k c [] e j h = absurd (none-some c e)
none-earlier k c (x ∷ xs) e zero h =
    elim (cases_Bool (starts flag (x ∷ xs))) [
      | inl t ↦ let s : k ≡ c = let q = sym (cond-true _ _ _ t) ∙ e in cc in absurd (omega arith)
      | inr f ↦ f
    ]
none-earlier k c (x ∷ xs) e (suc j) h =
    elim (cases_Bool (starts flag (x ∷ xs))) [
      | inl t ↦ let s : k ≡ c = let q = sym (cond-true _ _ _ t) ∙ e in cc in absurd (omega arith)
      | inr f ↦ none-earlier (k + 1) c xs (sym (cond-false _ _ _ f) ∙ e) j (omega arith)
    ]

-- none at all where there is no first
pub none_ever : (k : ℕ) (xs : List Bool) → first_flag k xs ≡ None → (j : ℕ) → starts flag (drop j xs) ≡ false
unfolding first_flag starts
none_ever k [] e zero = refl
none_ever k [] e (suc j) = refl
none_ever k (x ∷ xs) e zero = elim (cases_Bool (starts flag (x ∷ xs))) [ inl t ↦ absurd (none-some k (sym e ∙ cond-true _ _ _ t)) | inr f ↦ f ]
none_ever k (x ∷ xs) e (suc j) =
    elim (cases_Bool (starts flag (x ∷ xs))) [
      | inl t ↦ absurd (none-some k (sym e ∙ cond-true _ _ _ t))
      | inr f ↦ none_ever (k + 1) xs (sym (cond-false _ _ _ f) ∙ e) j
    ]

pub first-told : (bits : List Bool) (k c : ℕ) → first_flag k (drop k bits) ≡ Some c → FirstAt bits k c
first-told bits k c e =
    let l = not_before k c (drop k bits) e in
    let f = flag-inside k c bits e in
    record {
      from = l;
      here = flag-stands bits c f.0;
      none = λ j a b s.
          let n = none-earlier k c (drop k bits) e (j - k) (omega arith) in
          let d : k + (j - k) ≡ j = omega arith in
          both_ways _ (ap (starts flag) (sym (ap (λ i. drop i bits) d) ∙ sym (drop-drop (j - k) k bits)) ∙ n) (stands-flag bits j s);
    }

first_one : (bits : List Bool) (k c d : ℕ) → FirstAt bits k c → FirstAt bits k d → c ≡ d
first_one bits k c d a b =
    elim (cases_order c d) [
      | inl e ↦ e
      | inr w ↦ elim w [ inl l ↦ absurd (b.none c a.from l a.here) | inr g ↦ absurd (a.none d b.from g b.here) ]
    ]

first_by : (bits : List Bool) (k c : ℕ) (o : Option ℕ) → first_flag k (drop k bits) ≡ o → FirstAt bits k c → first_flag k (drop k bits) ≡ Some c
first_by bits k c None e f =
    let l = f.from in
    let d : k + (c - k) ≡ c = omega arith in
    absurd (both_ways _ (ap (starts flag) (sym (ap (λ i. drop i bits) d) ∙ sym (drop-drop (c - k) k bits)) ∙ none_ever k (drop k bits) e (c - k)) (stands-flag bits c f.here))
first_by bits k c (Some d) e f = e ∙ ap (λ i. Some i) (first_one bits k d c (first-told bits k d e) f)

pub first-only : (bits : List Bool) (k c : ℕ) → FirstAt bits k c → first_flag k (drop k bits) ≡ Some c
first-only bits k c f = first_by bits k c (first_flag k (drop k bits)) refl f

pub closing-told : (bits : List Bool) (b c : ℕ) → Closing bits b c
unfolding closing
closing-told bits b c = record { told = first-told bits b c; only = first-only bits b c }
