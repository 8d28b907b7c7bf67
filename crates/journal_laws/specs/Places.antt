-- Which cell a journal writes next, and why no cut there loses a mark.
use Rattle.std.specs.Prelude.{◌≡◌, ℕ, ◌<◌, ◌≤◌, true, false, ◌⊎◌, List, length, Some, None, Decides, Option, ◌≢◌, slice_set}
use Rattle.marks.specs.declared.mark.Pair.{Pair}
use Rattle.marks.specs.declared.mark.Cell.{Cell}
use Rattle.marks.specs.declared.mark.Cell.TheVariants.{Torn}
use Rattle.journal.specs.declared.source.Source.{Source}
use Rattle.journal.specs.Journals.{IsSource, source_in, mark_in, is_free}

-- from s up, and from 0 on past the end, place j comes before place k
abbrev pub ComesBefore : ℕ → ℕ → ℕ → Type 0
ComesBefore s k j = ((s ≤ j) × (j < k)) ⊎ ((k < s) × ((s ≤ j) ⊎ (j < k)))

-- cell k is free, and none that comes before it
pub record FirstAt (cs : List Cell) (s k : ℕ) : Type 0 where
  pub inside : k < length cs
  pub free : is_free cs k ≡ true
  pub before : (j : ℕ) → j < length cs → ComesBefore s k j → is_free cs j ≡ false

-- the first free cell from place s on, going round; none only where no cell is free
abbrev pub FirstFree : List Cell → ℕ → Option ℕ → Type 0
FirstFree cs s None = (j : ℕ) → j < length cs → is_free cs j ≡ false
FirstFree cs s (Some k) = FirstAt cs s k

-- cell k gives no pair's mark, and torn it takes no pair's mark away
pub record Expendable (cs : List Cell) (k : ℕ) : Type 0 where
  pub gives : (q : Pair) (s : Source) → source_in cs q ≡ Some s → s.cell ≢ k
  pub torn : (q : Pair) → mark_in (slice_set cs k Torn) q ≡ mark_in cs q

-- some cell is free
pub record FreeCell (cs : List Cell) : Type 0 where
  pub cell : ℕ
  pub inside : cell < length cs
  pub free : is_free cs cell ≡ true

-- what passing the cells in order finds is what gives the pair's mark, and nothing else does
abbrev pub SourceLaw : Type 0
SourceLaw = (cs : List Cell) (p : Pair) (o : Option Source) → IsSource cs p (length cs) o → o ≡ source_in cs p

-- a cell is free exactly when it gives no pair's mark
abbrev pub FreeLaw : Type 0
FreeLaw = (cs : List Cell) (k : ℕ) → k < length cs → Decides (is_free cs k) ((q : Pair) (s : Source) → source_in cs q ≡ Some s → s.cell ≢ k)
