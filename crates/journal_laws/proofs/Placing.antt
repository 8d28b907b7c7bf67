-- Sources and free cells.
use Rattle.std.proofs.Common.{◌≡◌, ℕ, zero, suc, ◌+◌, ◌-◌, ◌<◌, ◌≤◌, Bool, true, false, not, List, ◌++◌, length, IfSome, Some, None, Decides, Option, sym, refl, ap, ◌∙◌, subst, inl, inr, ⊎_elim, arith}
use Rattle.std.specs.List.{range_with_len}
use Rattle.std.specs.Option.{option_map}
use Rattle.std.proofs.lemmas.Bool.{cases_Bool, cases_lt, eqb-false, ne_eqb, not_from_false, or_cases, true≢false}
use Rattle.marks.specs.declared.mark.Pair.{Pair}
use Rattle.marks.specs.declared.mark.Cell.{Cell}
use Rattle.marks.specs.declared.mark.Cell.TheVariants.{Blank, Torn, Held}
use Rattle.marks.specs.Device.{cell_at}
use Rattle.journal.specs.declared.source.Source.{Source}
use Rattle.journal.specs.Journals.{IsSource, record_of, source_in, comes_from, free_cell, is_free, any_free, first_free, start_after, chosen}
use Rattle.journal.proofs.Sources.{is_source, unique, free-gives, change_keeps, never-torn, any_some}
use Rattle.journal.proofs.Choosing.{first-here, first-later, first-none, first-first, first_second, within, none_free, chosen-inside, chosen-free, chosen-nowhere}
use Rattle.journal_laws.specs.Places.{ComesBefore, FirstFree, Expendable, FreeCell, SourceLaw, FreeLaw}

pub source_law : SourceLaw
source_law cs p o h = unique cs p (length cs) o _ h (is_source cs p (length cs))

-- free cells give no mark

from_some : (o : Option Source) (s : Source) (k : ℕ) → o ≡ Some s → comes_from o k ≡ false → s.cell ≡ k → ⊥
from_some o s k e h = eqb-false s.cell k (subst (λ x. comes_from x k ≡ false) e h)

module _ (cs : List Cell) (k : ℕ) (inside : k < length cs) where
  pub gives_none : is_free cs k ≡ true → (q : Pair) (s : Source) → source_in cs q ≡ Some s → s.cell ≡ k → ⊥
  gives_none f q s e = from_some (source_in cs q) s k e (free-gives cs k inside q f (source_in cs q) refl (is_source cs q (length cs)))

  not_from : (o : Option Source) → ((s : Source) → o ≡ Some s → s.cell ≡ k → ⊥) → not (comes_from o k) ≡ true
  not_from None h = refl
  not_from (Some s) h = not_from_false _ (ne_eqb s.cell k (h s refl))

  none-gives : ((q : Pair) (s : Source) → source_in cs q ≡ Some s → s.cell ≡ k → ⊥) → (c : Cell) → free_cell cs k c ≡ true
  none-gives h Blank = refl
  none-gives h Torn = refl
  none-gives h (Held r) = not_from (source_in cs r.pair) (h r.pair)

  pub expendable : is_free cs k ≡ true → Expendable cs k
  expendable f = record {
    gives = gives_none f;
    torn = λ q. ap (λ x. option_map (λ s. s.mark) x) (change_keeps cs k inside Torn q f (λ o e. never-torn (record_of q o) e));
  }

pub free_law : FreeLaw
free_law cs k h = (gives_none cs k h, λ g. none-gives cs k h g (cell_at cs k))

-- the chosen cell

some_is : (j k : ℕ) → ◌≡◌ {A = Option ℕ} (Some j) (Some k) → j ≡ k
some_is j k e = cc

none_is : (k : ℕ) → ◌≡◌ {A = Option ℕ} None (Some k) → ⊥
none_is k e = let z : ◌≡◌ {A = ℕ} 0 1 = cc in omega arith

module _ (cs : List Cell) where
  -- nothing before the first free place of a stretch is free
  earlier : (n a k : ℕ) → first_free cs (range_with_len a n) ≡ Some k → (j : ℕ) → a ≤ j → j < k → is_free cs j ≡ false
  earlier zero a k h j l u = absurd (none_is k (sym (first-none cs) ∙ h))
  earlier (suc n) a k h j l u =
      ⊎_elim
      (λ f. let e : a ≡ k = some_is a k (sym (first-here cs a _ f) ∙ h) in absurd (omega arith))
      (λ f.
      ⊎_elim
      (λ aj. earlier n (a + 1) k (sym (first-later cs a _ f) ∙ h) j (omega arith) u)
      (λ ja. let e : a ≡ j = omega arith in subst (λ y. is_free cs y ≡ false) e f)
      (cases_lt a j))
      (cases_Bool (is_free cs a))

  -- found in the stretch from s up
  up : (s k : ℕ) → first_free cs (range_with_len s (length cs - s)) ≡ Some k → (j : ℕ) → ComesBefore s k j → is_free cs j ≡ false
  up s k h j (inl x) = earlier (length cs - s) s k h j x.0 x.1
  up s k h j (inr x) = let w = within cs (length cs - s) s k h in absurd (omega (arith, w.0, x.0))

  -- found in the stretch from 0, with none from s up
  round : (s k : ℕ) → first_free cs (range_with_len s (length cs - s)) ≡ None → first_free cs (range_with_len 0 (length cs)) ≡ Some k → (j : ℕ) → j < length cs → ComesBefore s k j → is_free cs j ≡ false
  round s k n h j l (inl x) = earlier (length cs) 0 k h j (omega arith) x.1
  round s k n h j l (inr x) =
      ⊎_elim
      (λ b. none_free cs (length cs - s) s n j b (omega arith))
      (λ b. earlier (length cs) 0 k h j (omega arith) b)
      x.1

  before : (s k : ℕ) (o : Option ℕ) → first_free cs (range_with_len s (length cs - s)) ≡ o → first_free cs (range_with_len s (length cs - s) ++ range_with_len 0 (length cs)) ≡ Some k →
      (j : ℕ) → j < length cs → ComesBefore s k j → is_free cs j ≡ false
  before s k (Some i) e h j l b =
      let ik : i ≡ k = some_is i k (sym (first-first cs _ _ i e) ∙ h) in
      up s k (e ∙ ap (λ x. Some x) ik) j b
  before s k None e h j l b = round s k e (sym (first_second cs _ _ e) ∙ h) j l b

  pub first_free_lem : (last o : Option ℕ) → o ≡ chosen cs last → IfSome o (λ k. Expendable cs k) × FirstFree cs (start_after last) o
  first_free_lem last None e = (tt, λ j l. chosen-nowhere cs last (sym e) j l)
  first_free_lem last (Some k) e =
      let inside = chosen-inside cs last k (sym e) in
      let free = chosen-free cs last k (sym e) in
      (expendable cs k inside free, record { inside = inside; free = free; before = before (start_after last) k _ refl (sym e) })

-- room

pub any_found : (cs : List Cell) (n : ℕ) → any_free cs n ≡ true → (k : ℕ) × (k < n) × (is_free cs k ≡ true)
unfolding any_free
any_found cs zero h = absurd (true≢false (sym h))
any_found cs (suc n) h =
    ⊎_elim
    (λ b. let x = any_found cs n b in (x.0, omega (arith, x.1), x.2))
    (λ b. (n, omega arith, b))
    (or_cases _ _ h)

pub free_decides : (cs : List Cell) (r : Bool) → r ≡ any_free cs (length cs) → Decides r (FreeCell cs)
free_decides cs r e = (
  λ h. let x = any_found cs (length cs) (sym e ∙ h) in record { cell = x.0; inside = x.1; free = x.2 },
  λ f. e ∙ any_some cs (length cs) f.cell f.inside f.free,
)

-- what was found is the source
pub found_source : (cs : List Cell) (p : Pair) (o : Option Source) → o ≡ source_in cs p → IsSource cs p (length cs) o
found_source cs p o e = subst (λ x. IsSource cs p (length cs) x) (sym e) (is_source cs p (length cs))
