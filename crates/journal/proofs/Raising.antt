-- What a write of the chosen cell does to the marks.
use Rattle.std.proofs.Common.{◌≡◌, ℕ, ◌<◌, Bool, true, false, cond, List, length, set, Some, None, Option, sym, refl, ap, ◌∙◌, arith}
use Rattle.std.specs.Option.{option_map}
use Rattle.marks.specs.declared.mark.Pair.{Pair}
use Rattle.marks.specs.declared.mark.Mark.{Mark}
use Rattle.marks.specs.declared.mark.Cell.{Cell}
use Rattle.marks.specs.declared.mark.Cell.TheVariants.{Torn, Held}
use Rattle.marks.specs.declared.mark.CutLeaves.{CutLeaves}
use Rattle.marks.specs.declared.mark.CutLeaves.TheVariants.{Old, New, Torn as Tears}
use Rattle.marks.specs.declared.mark.Raised.TheVariants.{Cut, Done}
use Rattle.marks.specs.Positions.{above}
use Rattle.marks.specs.Device.{Device, cells_cut, WriteOutside, WriteCut, WriteDone}
use Rattle.marks.specs.State.{RaiseFull, Begun, CutShort, Completed, Raises}
use Rattle.journal.specs.Journals.{record_of, overtakes, source_in, mark_in, is_free, chosen, state_in}
use Rattle.journal.proofs.Sources.{change_keeps, change_raises, above-overtakes, held-pair, never-torn}
use Rattle.journal.proofs.Choosing.{chosen-inside, chosen-free, chosen_none, chosen-room}

-- whether a cut leaves the new record
abbrev pub stands : CutLeaves → Bool
stands Old = false
stands New = true
stands Tears = false

-- the mark that was read is the store's
pub is-higher : (o o' : Option Mark) (m : Mark) → o ≡ o' → true ≡ above o m.position → above o' m.position ≡ true
is-higher o o' m e h = sym (h ∙ ap (λ x. above x m.position) e)

abbrev Apart : List Cell → Pair → List Cell → Type 0
Apart cs p cs' = (q : Pair) → (q ≡ p → ⊥) → mark_in cs' q ≡ mark_in cs q

module _ (cs : List Cell) (k : ℕ) (inside : k < length cs) (free : is_free cs k ≡ true) (p : Pair) (m : Mark) (h : above (mark_in cs p) m.position ≡ true) where
  over : overtakes (source_in cs p) m ≡ true
  over = sym (above-overtakes (source_in cs p) m) ∙ h

  pub raised : mark_in (set cs k (Held (record_of p m))) p ≡ Some m
  raised = ap (λ x. option_map (λ s. s.mark) x) (change_raises cs k inside p m over)

  pub raised-others : Apart cs p (set cs k (Held (record_of p m)))
  raised-others q ne = ap (λ x. option_map (λ s. s.mark) x) (change_keeps cs k inside (Held (record_of p m)) q free (λ o e. ne (sym (held-pair (record_of p m) q o e).0)))

  pub torn-all : (q : Pair) → mark_in (set cs k Torn) q ≡ mark_in cs q
  torn-all q = ap (λ x. option_map (λ s. s.mark) x) (change_keeps cs k inside Torn q free (λ o e. never-torn (record_of q o) e))

  cut-mark : (v : CutLeaves) → mark_in (cells_cut v k (record_of p m) cs) p ≡ cond (stands v) (Some m) (mark_in cs p)
  cut-mark Old = refl
  cut-mark New = raised
  cut-mark Tears = torn-all p

  cut-others : (v : CutLeaves) → Apart cs p (cells_cut v k (record_of p m) cs)
  cut-others Old = λ q ne. refl
  cut-others New = raised-others
  cut-others Tears = λ q ne. torn-all q

-- no cell is chosen
pub full : (d : Device) (last : Option ℕ) (p : Pair) (m : Mark) → true ≡ d.on → above (mark_in d.cells p) m.position ≡ true → None ≡ chosen d.cells last → RaiseFull (state_in d) p m (state_in d)
full d last p m on h at = record { powered = sym on; higher = h; full = chosen_none d.cells last (sym at); same = refl }

-- the chosen cell is one of the cells
pub not_outside : (d e : Device) (last : Option ℕ) (k : ℕ) → Some k ≡ chosen d.cells last → WriteOutside d k e → ⊥
not_outside d e last k at w = omega (arith, chosen-inside d.cells last k (sym at), w.beyond)

module _ (d e : Device) (last : Option ℕ) (p : Pair) (m : Mark) (k : ℕ) (at : Some k ≡ chosen d.cells last) (h : above (mark_in d.cells p) m.position ≡ true) where
  begun : d.on ≡ true → Begun (state_in d) p m
  begun on = record { powered = on; higher = h; roomy = chosen-room d.cells last k (sym at) }

  completed : WriteDone d k (record_of p m) e → Completed (state_in d) p m (state_in e)
  completed w =
      let inside = chosen-inside d.cells last k (sym at) in
      let free = chosen-free d.cells last k (sym at) in
      record {
        paid = w.paid;
        still = w.still;
        mark = ap (λ x. mark_in x p) w.after ∙ raised d.cells k inside free p m h;
        others = λ q ne. ap (λ x. mark_in x q) w.after ∙ raised-others d.cells k inside free p m h q ne;
      }

  cut_short : (v : CutLeaves) → WriteCut d k (record_of p m) e v → CutShort (state_in d) p m (state_in e) (stands v)
  cut_short v w =
      let inside = chosen-inside d.cells last k (sym at) in
      let free = chosen-free d.cells last k (sym at) in
      record {
        empty = w.empty;
        off = w.off;
        spent = w.spent;
        mark = ap (λ x. mark_in x p) w.after ∙ cut-mark d.cells k inside free p m h v;
        others = λ q ne. ap (λ x. mark_in x q) w.after ∙ cut-others d.cells k inside free p m h v q ne;
      }

  pub done-raises : WriteDone d k (record_of p m) e → Raises (state_in d) p m Done (state_in e)
  done-raises w = (begun w.powered, completed w)

  pub cut-raises : (v : CutLeaves) → WriteCut d k (record_of p m) e v → Raises (state_in d) p m Cut (state_in e)
  cut-raises v w = (begun w.powered, (stands v, cut_short v w))
