-- The first free cell of some places.
use Rattle.std.proofs.Common.{◌≡◌, ℕ, zero, suc, ◌+◌, ◌-◌, ◌<◌, ◌≤◌, min, true, false, List, [], ◌∷◌, ◌++◌, length, Some, None, Option, sym, refl, ap, ◌∙◌, subst, ⊎_elim, arith, MatchOption, is_some}
use Rattle.std.specs.List.{range_with_len}
use Rattle.std.proofs.lemmas.Bool.{cases_Bool, cases_eq, cases_lt, cond-true, cond-false}
use Rattle.marks.specs.declared.mark.Cell.{Cell}
use Rattle.journal.specs.Journals.{is_free, any_free, first_free, going_round, start_after, chosen}
use Rattle.journal.proofs.Sources.{any_none, any_some}

pub counting_less : (a e : ℕ) → a < e → range_with_len a (e - a) ≡ a ∷ range_with_len (a + 1) (e - (a + 1))
counting_less a e h = let k : e - a ≡ suc (e - (a + 1)) = omega arith in ap (λ n. range_with_len a n) k

counting_none : (a e : ℕ) → e ≤ a → range_with_len a (e - a) ≡ []
counting_none a e h = let k : e - a ≡ 0 = omega arith in ap (λ n. range_with_len a n) k

-- a stretch of places in two
counting_split : (k a m : ℕ) → range_with_len a (k + m) ≡ range_with_len a k ++ range_with_len (a + k) m
counting_split zero a m =
    let e : 0 + m ≡ m = omega arith in
    let f : a ≡ a + 0 = omega arith in
    ap (λ n. range_with_len a n) e ∙ ap (λ x. range_with_len x m) f
counting_split (suc k) a m =
    let e : suc k + m ≡ suc (k + m) = omega arith in
    let f : a + 1 + k ≡ a + suc k = omega arith in
    ap (λ n. range_with_len a n) e ∙ ap (λ xs. a ∷ xs) (counting_split k (a + 1) m ∙ ap (λ x. range_with_len (a + 1) k ++ range_with_len x m) f)

module _ (cs : List Cell) where
  pub first-here : (k : ℕ) (ks : List ℕ) → is_free cs k ≡ true → first_free cs (k ∷ ks) ≡ Some k
  unfolding first_free
  first-here k ks h = cond-true (is_free cs k) _ _ h

  pub first-later : (k : ℕ) (ks : List ℕ) → is_free cs k ≡ false → first_free cs (k ∷ ks) ≡ first_free cs ks
  unfolding first_free
  first-later k ks h = cond-false (is_free cs k) _ _ h

  pub first-none : first_free cs [] ≡ None
  unfolding first_free
  first-none = refl

  -- what a search from a on finds among n places
  abbrev pub Found : ℕ → ℕ → Option ℕ → Type 0
  Found a e o = MatchOption o ((k : ℕ) → a ≤ k → k < e → is_free cs k ≡ false) (λ i. (a ≤ i) × (i < e) × (is_free cs i ≡ true) × ((k : ℕ) → a ≤ k → k < i → is_free cs k ≡ false))

  seek : (n a : ℕ) (o : Option ℕ) → Found a (a + n) o → o ≡ first_free cs (range_with_len a n)
  seek zero a None f = sym first-none
  seek zero a (Some i) f = absurd (omega (arith, f.0, f.1))
  seek (suc n) a None f =
      let h = f a (omega arith) (omega arith) in
      seek n (a + 1) None (λ k l u. f k (omega arith) (omega arith)) ∙ sym (first-later a _ h)
  seek (suc n) a (Some i) f =
      ⊎_elim
      (λ e. subst (λ x. Some x ≡ first_free cs (a ∷ range_with_len (a + 1) n)) e (sym (first-here a _ (subst (λ x. is_free cs x ≡ true) (sym e) f.2))))
      (λ ne.
      let l : a < i = omega (arith, f.0) in
      let h = f.3 a (omega arith) l in
      seek n (a + 1) (Some i) (omega arith, omega (arith, f.1), f.2, λ k u v. f.3 k (omega arith) v) ∙ sym (first-later a _ h))
      (cases_eq a i)

  nothing : (a e : ℕ) (o : Option ℕ) → e ≤ a → Found a e o → o ≡ first_free cs (range_with_len a (e - a))
  nothing a e None l f = sym first-none ∙ ap (λ x. first_free cs x) (sym (counting_none a e l))
  nothing a e (Some i) l f = absurd (omega (arith, f.0, f.1))

  pub found : (a e : ℕ) (o : Option ℕ) → Found a e o → o ≡ first_free cs (range_with_len a (e - a))
  found a e o f =
      ⊎_elim
      (λ l. let n : a + (e - a) ≡ e = omega arith in seek (e - a) a o (subst (λ x. Found a x o) (sym n) f))
      (λ l. nothing a e o l f)
      (cases_lt a e)

  -- two stretches of places, one after the other
  pub first-first : (xs ys : List ℕ) (k : ℕ) → first_free cs xs ≡ Some k → first_free cs (xs ++ ys) ≡ Some k
  first-first [] ys k h = absurd (let z : ◌≡◌ {A = Option ℕ} None (Some k) = sym first-none ∙ h in let e : ◌≡◌ {A = ℕ} 0 1 = cc in omega arith)
  first-first (x ∷ xs) ys k h =
      ⊎_elim
      (λ f. first-here x (xs ++ ys) f ∙ sym (first-here x xs f) ∙ h)
      (λ f. first-later x (xs ++ ys) f ∙ first-first xs ys k (sym (first-later x xs f) ∙ h))
      (cases_Bool (is_free cs x))

  pub first_second : (xs ys : List ℕ) → first_free cs xs ≡ None → first_free cs (xs ++ ys) ≡ first_free cs ys
  first_second [] ys h = refl
  first_second (x ∷ xs) ys h =
      ⊎_elim
      (λ f. absurd (let z : ◌≡◌ {A = Option ℕ} None (Some x) = sym h ∙ first-here x xs f in let e : ◌≡◌ {A = ℕ} 0 1 = cc in omega arith))
      (λ f. first-later x (xs ++ ys) f ∙ first_second xs ys (sym (first-later x xs f) ∙ h))
      (cases_Bool (is_free cs x))

  -- a second stretch with no free place
  pub first-only : (xs ys : List ℕ) → first_free cs ys ≡ None → first_free cs (xs ++ ys) ≡ first_free cs xs
  first-only [] ys h = h ∙ sym first-none
  first-only (x ∷ xs) ys h =
      ⊎_elim
      (λ f. first-here x (xs ++ ys) f ∙ sym (first-here x xs f))
      (λ f. first-later x (xs ++ ys) f ∙ first-only xs ys h ∙ sym (first-later x xs f))
      (cases_Bool (is_free cs x))

  -- what is found is free
  pub free-at : (xs : List ℕ) (k : ℕ) → first_free cs xs ≡ Some k → is_free cs k ≡ true
  free-at [] k h = absurd (let z : ◌≡◌ {A = Option ℕ} None (Some k) = sym first-none ∙ h in let e : ◌≡◌ {A = ℕ} 0 1 = cc in omega arith)
  free-at (x ∷ xs) k h =
      ⊎_elim
      (λ f. let z : ◌≡◌ {A = Option ℕ} (Some x) (Some k) = sym (first-here x xs f) ∙ h in let e : x ≡ k = cc in subst (λ y. is_free cs y ≡ true) e f)
      (λ f. free-at xs k (sym (first-later x xs f) ∙ h))
      (cases_Bool (is_free cs x))

  -- what is found lies in the stretch
  pub within : (n a k : ℕ) → first_free cs (range_with_len a n) ≡ Some k → (a ≤ k) × (k < a + n)
  within zero a k h = absurd (let z : ◌≡◌ {A = Option ℕ} None (Some k) = sym first-none ∙ h in let e : ◌≡◌ {A = ℕ} 0 1 = cc in omega arith)
  within (suc n) a k h =
      ⊎_elim
      (λ f. let z : ◌≡◌ {A = Option ℕ} (Some a) (Some k) = sym (first-here a _ f) ∙ h in let e : a ≡ k = cc in (omega arith, omega arith))
      (λ f. let w = within n (a + 1) k (sym (first-later a _ f) ∙ h) in (omega (arith, w.0), omega (arith, w.1)))
      (cases_Bool (is_free cs a))

  -- none is free where none is found
  pub none_free : (n a : ℕ) → first_free cs (range_with_len a n) ≡ None → (j : ℕ) → a ≤ j → j < a + n → is_free cs j ≡ false
  none_free zero a h j l u = absurd (omega arith)
  none_free (suc n) a h j l u =
      ⊎_elim
      (λ f. absurd (let z : ◌≡◌ {A = Option ℕ} None (Some a) = sym h ∙ first-here a _ f in let e : ◌≡◌ {A = ℕ} 0 1 = cc in omega arith))
      (λ f.
      ⊎_elim
      (λ aj. none_free n (a + 1) (sym (first-later a _ f) ∙ h) j (omega arith) (omega arith))
      (λ ja. let e : a ≡ j = omega arith in subst (λ y. is_free cs y ≡ false) e f)
      (cases_lt a j))
      (cases_Bool (is_free cs a))

-- the place to begin at, held within the cells
pub first_stretch : (cs : List Cell) (s a n : ℕ) → a ≡ min s n → n ≡ length cs → range_with_len a (n - a) ≡ range_with_len s (length cs - s)
first_stretch cs s a n e h =
    ⊎_elim
    (λ lt. let f : a ≡ s = omega arith in let g : n - a ≡ length cs - s = omega arith in ap (λ x. range_with_len a x) g ∙ ap (λ x. range_with_len x (length cs - s)) f)
    (λ ge. let f : n ≤ a = omega arith in let g : length cs ≤ s = omega arith in counting_none a n f ∙ sym (counting_none s (length cs) g))
    (cases_lt s n)

from_zero : (cs : List Cell) (n : ℕ) → n ≡ length cs → range_with_len 0 (n - 0) ≡ range_with_len 0 (length cs)
from_zero cs n h = let e : n - 0 ≡ length cs = omega arith in ap (λ x. range_with_len 0 x) e

module _ (cs : List Cell) (last : Option ℕ) (a n : ℕ) (at : a ≡ min (start_after last) n) (long : n ≡ length cs) where
  chosen-first : (k : ℕ) → Some k ≡ first_free cs (range_with_len a (n - a)) → Some k ≡ chosen cs last
  chosen-first k h = sym (first-first cs _ _ k (ap (λ x. first_free cs x) (sym (first_stretch cs (start_after last) a n at long)) ∙ sym h))

  -- the places from a up are not free, so those below a are all that is left
  below-first : None ≡ first_free cs (range_with_len a (n - a)) → first_free cs (range_with_len 0 (length cs)) ≡ first_free cs (range_with_len 0 (a - 0))
  below-first h =
      let whole : length cs ≡ a - 0 + (n - a) = omega arith in
      let up : 0 + (a - 0) ≡ a = omega arith in
      ap (λ m. first_free cs (range_with_len 0 m)) whole
      ∙ ap (λ xs. first_free cs xs) (counting_split (a - 0) 0 (n - a) ∙ ap (λ x. range_with_len 0 (a - 0) ++ range_with_len x (n - a)) up)
      ∙ first-only cs (range_with_len 0 (a - 0)) (range_with_len a (n - a)) (sym h)

  chosen_second : (r : Option ℕ) → None ≡ first_free cs (range_with_len a (n - a)) → r ≡ first_free cs (range_with_len 0 (a - 0)) → r ≡ chosen cs last
  chosen_second r h f =
      f ∙ sym (below-first h)
      ∙ sym (first_second cs _ _ (ap (λ x. first_free cs x) (sym (first_stretch cs (start_after last) a n at long)) ∙ sym h))

  -- the first free cell of the second stretch where the first has none
  pub chosen_either : (o r : Option ℕ) → o ≡ first_free cs (range_with_len a (n - a)) → MatchOption o (r ≡ first_free cs (range_with_len 0 (a - 0))) (λ k. r ≡ Some k) → r ≡ chosen cs last
  chosen_either None r h f = chosen_second r h f
  chosen_either (Some k) r h f = f ∙ chosen-first k h

-- room

room-none : (cs : List Cell) (n : ℕ) → n ≡ length cs → None ≡ first_free cs (range_with_len 0 (n - 0)) → false ≡ any_free cs (length cs)
room-none cs n l h =
    let e : first_free cs (range_with_len 0 (length cs)) ≡ None = ap (λ x. first_free cs x) (sym (from_zero cs n l)) ∙ sym h in
    sym (any_none cs (length cs) (λ j b. none_free cs (length cs) 0 e j (omega arith) (omega arith)))

room-some : (cs : List Cell) (n k : ℕ) → n ≡ length cs → Some k ≡ first_free cs (range_with_len 0 (n - 0)) → true ≡ any_free cs (length cs)
room-some cs n k l h =
    let e : first_free cs (range_with_len 0 (length cs)) ≡ Some k = ap (λ x. first_free cs x) (sym (from_zero cs n l)) ∙ sym h in
    let w = within cs (length cs) 0 k e in
    sym (any_some cs (length cs) k (omega (arith, w.1)) (free-at cs _ k e))

pub room : (cs : List Cell) (n : ℕ) (o : Option ℕ) → n ≡ length cs → o ≡ first_free cs (range_with_len 0 (n - 0)) → is_some o ≡ any_free cs (length cs)
room cs n None l h = room-none cs n l h
room cs n (Some k) l h = room-some cs n k l h

-- the chosen cell is one of the cells, and free

either : (cs : List Cell) (s : ℕ) (o : Option ℕ) → first_free cs (range_with_len s (length cs - s)) ≡ o → (k : ℕ) → first_free cs (going_round s (length cs)) ≡ Some k → k < length cs
either cs s (Some j) e k h =
    let z : ◌≡◌ {A = Option ℕ} (Some j) (Some k) = sym (first-first cs _ _ j e) ∙ h in
    let jk : j ≡ k = cc in
    let w = within cs (length cs - s) s j e in
    omega (arith, w.0, w.1)
either cs s None e k h =
    let w = within cs (length cs) 0 k (sym (first_second cs _ _ e) ∙ h) in
    omega (arith, w.1)

pub chosen-inside : (cs : List Cell) (last : Option ℕ) (k : ℕ) → chosen cs last ≡ Some k → k < length cs
chosen-inside cs last k h = either cs (start_after last) _ refl k h

pub chosen-free : (cs : List Cell) (last : Option ℕ) (k : ℕ) → chosen cs last ≡ Some k → is_free cs k ≡ true
chosen-free cs last k h = free-at cs _ k h

some-none : (k : ℕ) → ◌≡◌ {A = Option ℕ} (Some k) None → ⊥
some-none k e = let z : ◌≡◌ {A = ℕ} 0 1 = cc in omega arith

no_first : (cs : List Cell) (xs ys : List ℕ) (o : Option ℕ) → first_free cs xs ≡ o → first_free cs (xs ++ ys) ≡ None → first_free cs ys ≡ None
no_first cs xs ys (Some k) e h = absurd (some-none k (sym (first-first cs xs ys k e) ∙ h))
no_first cs xs ys None e h = sym (first_second cs xs ys e) ∙ h

pub chosen-nowhere : (cs : List Cell) (last : Option ℕ) → chosen cs last ≡ None → (j : ℕ) → j < length cs → is_free cs j ≡ false
chosen-nowhere cs last h j b =
    let e = no_first cs (range_with_len (start_after last) (length cs - start_after last)) (range_with_len 0 (length cs)) _ refl h in
    none_free cs (length cs) 0 e j (omega arith) (omega arith)

pub chosen_none : (cs : List Cell) (last : Option ℕ) → chosen cs last ≡ None → any_free cs (length cs) ≡ false
chosen_none cs last h = any_none cs (length cs) (chosen-nowhere cs last h)

pub chosen-room : (cs : List Cell) (last : Option ℕ) (k : ℕ) → chosen cs last ≡ Some k → any_free cs (length cs) ≡ true
chosen-room cs last k h = any_some cs (length cs) k (chosen-inside cs last k h) (chosen-free cs last k h)
