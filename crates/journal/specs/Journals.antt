-- Which cell gives a pair's mark, which cells are free, and which of them a raise writes.
use Rattle.std.specs.Prelude.{◌≡◌, ℕ, zero, suc, ◌+◌, ◌-◌, ◌<◌, Bool, true, false, cond, not, ◌&&◌, ◌||◌, List, ◌++◌, length, Some, None, Option, ◌==◌, ◌≢◌, slice_set}
use Rattle.std.specs.List.{range_with_len, find}
use Rattle.std.specs.Option.{option_map}
use Rattle.marks.specs.declared.mark.Pair.{Pair}
use Rattle.marks.specs.declared.mark.Mark.{Mark}
use Rattle.marks.specs.declared.mark.Record.{Record}
use Rattle.marks.specs.declared.mark.Cell.{Cell}
use Rattle.marks.specs.declared.mark.Cell.TheVariants.{Blank, Torn, Held}
use Rattle.marks.specs.declared.mark.CutLeaves.{CutLeaves}
use Rattle.marks.specs.declared.mark.Raised.{Raised}
use Rattle.marks.specs.declared.mark.Raised.TheVariants.{Off, Low, Full, Cut, Done}
use Rattle.marks.specs.Positions.{before, same_pair}
use Rattle.marks.specs.Device.{Device, cell_at, cells_cut}
use Rattle.marks.specs.State.{State}
use Rattle.journal.specs.declared.source.Source.{Source}

abbrev pub record_of : Pair → Mark → Record
record_of p m = record { pair = p; mark = m }

-- cell s holds p's highest record among the first n, and no lower cell one at the same position
pub record Highest (cs : List Cell) (p : Pair) (n : ℕ) (s : Source) : Type 0 where
  pub inside : s.cell < n
  pub holds : cell_at cs s.cell ≡ Held (record_of p s.mark)
  pub highest : (j : ℕ) (m : Mark) → j < n → cell_at cs j ≡ Held (record_of p m) → before s.mark.position m.position ≡ false
  pub lowest : (j : ℕ) (m : Mark) → j < s.cell → cell_at cs j ≡ Held (record_of p m) → before m.position s.mark.position ≡ true

-- what gives p's mark among the first n cells: the cell of its highest record, or none where no cell holds one
abbrev pub IsSource : List Cell → Pair → ℕ → Option Source → Type 0
IsSource cs p n None = (j : ℕ) (m : Mark) → j < n → cell_at cs j ≢ Held (record_of p m)
IsSource cs p n (Some s) = Highest cs p n s

-- a mark lies above the one found so far
abbrev pub overtakes : Option Source → Mark → Bool
overtakes None m = true
overtakes (Some s) m = before s.mark.position m.position

-- a record of the pair, above the one found so far
abbrev pub supersedes : Pair → Option Source → Record → Bool
supersedes p found r = same_pair p r.pair && overtakes found r.mark

-- the source found so far, once cell i is seen too
abbrev pub passing : Pair → ℕ → Option Source → Cell → Option Source
passing p i found Blank = found
passing p i found Torn = found
passing p i found (Held r) = cond (supersedes p found r) (Some (record { cell = i; mark = r.mark })) found

-- the source of p's mark among the first n cells, found by passing them in order
unfoldable pub source_to : List Cell → Pair → ℕ → Option Source
source_to cs p zero = None
source_to cs p (suc n) = passing p n (source_to cs p n) (cell_at cs n)

-- the source of p's mark
abbrev pub source_in : List Cell → Pair → Option Source
source_in cs p = source_to cs p (length cs)

-- p's mark
abbrev pub mark_in : List Cell → Pair → Option Mark
mark_in cs p = option_map (λ s. s.mark) (source_in cs p)

-- the source is cell i
abbrev pub comes_from : Option Source → ℕ → Bool
comes_from None i = false
comes_from (Some s) i = s.cell == i

-- a cell is free when it is blank, torn, or not the one that gives its pair's mark
abbrev pub free_cell : List Cell → ℕ → Cell → Bool
free_cell cs i Blank = true
free_cell cs i Torn = true
free_cell cs i (Held r) = not (comes_from (source_in cs r.pair) i)

abbrev pub is_free : List Cell → ℕ → Bool
is_free cs i = free_cell cs i (cell_at cs i)

-- one of the first n cells is free
unfoldable pub any_free : List Cell → ℕ → Bool
any_free cs zero = false
any_free cs (suc n) = any_free cs n || is_free cs n

-- every pair has room exactly when some cell is free
abbrev pub room_in : List Cell → Pair → Bool
room_in cs p = any_free cs (length cs)

-- what a journal over cells means
abbrev pub state_in : Device → State
state_in d = record { mark = mark_in d.cells; room = room_in d.cells; on = d.on; charge = d.charge }

-- the first of some places whose cell is free
unfoldable pub first_free : List Cell → List ℕ → Option ℕ
first_free cs ks = find (is_free cs) ks

-- the place after the last written; 0 where none was written since making or switching on
abbrev pub start_after : Option ℕ → ℕ
start_after None = 0
start_after (Some k) = k + 1

-- the places of n cells from s up, and then from 0
abbrev pub going_round : ℕ → ℕ → List ℕ
going_round s n = range_with_len s (n - s) ++ range_with_len 0 n

-- the cell that a raise writes
abbrev pub chosen : List Cell → Option ℕ → Option ℕ
chosen cs last = first_free cs (going_round (start_after last) (length cs))

-- a raise that is not written: cells and place stay
pub record Unwritten (cs : List Cell) (last : Option ℕ) (cs' : List Cell) (last' : Option ℕ) : Type 0 where
  pub cells : cs' ≡ cs
  pub place : last' ≡ last

-- a raise that is cut in writing the chosen cell: that cell is as the cut leaves it, and counts as last written
pub record CutIn (cs : List Cell) (last : Option ℕ) (p : Pair) (m : Mark) (cs' : List Cell) (last' : Option ℕ) : Type 0 where
  pub cell : ℕ
  pub choice : chosen cs last ≡ Some cell
  pub leaves : CutLeaves
  pub cells : cs' ≡ cells_cut leaves cell (record_of p m) cs
  pub place : last' ≡ Some cell

-- a raise that writes the chosen cell
pub record WrittenIn (cs : List Cell) (last : Option ℕ) (p : Pair) (m : Mark) (cs' : List Cell) (last' : Option ℕ) : Type 0 where
  pub cell : ℕ
  pub choice : chosen cs last ≡ Some cell
  pub cells : cs' ≡ slice_set cs cell (Held (record_of p m))
  pub place : last' ≡ Some cell

-- what a raise does to the cells and to the place last written, by its answer
abbrev pub Journals : List Cell → Option ℕ → Pair → Mark → Raised → List Cell → Option ℕ → Type 0
Journals cs last p m Off cs' last' = Unwritten cs last cs' last'
Journals cs last p m Low cs' last' = Unwritten cs last cs' last'
Journals cs last p m Full cs' last' = Unwritten cs last cs' last'
Journals cs last p m Cut cs' last' = CutIn cs last p m cs' last'
Journals cs last p m Done cs' last' = WrittenIn cs last p m cs' last'

-- what the memory of the cells did, and that the place last written is the cell that was chosen
pub record JournalTouches (Below : Type 0) (cs : List Cell) (last last' : Option ℕ) : Type 0 where
  pub below : Below
  pub place : last' ≡ chosen cs last

-- what the memory of the cells did, and that no cell counts as written yet
pub record JournalRests (Below : Type 0) (last' : Option ℕ) : Type 0 where
  pub below : Below
  pub place : last' ≡ None
