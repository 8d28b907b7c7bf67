-- What a list of cells under a power supply means, and what its calls do to that meaning.
use Rattle.std.specs.Prelude.{◌≡◌, ℕ, ◌+◌, ◌<◌, ◌≤◌, Bool, true, false, List, length, slice_index_or, slice_set}
use Rattle.marks.specs.declared.mark.Cell.{Cell}
use Rattle.marks.specs.declared.mark.Cell.TheVariants.{Torn, Held}
use Rattle.marks.specs.declared.mark.Record.{Record}
use Rattle.marks.specs.declared.mark.CutLeaves.{CutLeaves}
use Rattle.marks.specs.declared.mark.CutLeaves.TheVariants.{Old, New, Torn as Tears}
use Rattle.marks.specs.declared.mark.Written.{Written}
use Rattle.marks.specs.declared.mark.Written.TheVariants.{Off, Outside, Cut, Done}

-- the cells in order, whether power is on, and how many whole writes it still lasts
pub record Device : Type 0 where
  pub cells : List Cell
  pub on : Bool
  pub charge : ℕ

abbrev pub device_of : List Cell → Bool → ℕ → Device
device_of cs b n = record { cells = cs; on = b; charge = n }

-- what stands at place i, torn beyond the list
abbrev pub cell_at : List Cell → ℕ → Cell
cell_at cs i = slice_index_or cs i Torn

-- the cells after a cut in a write of r to place i: that cell is old, new or torn
abbrev pub cells_cut : CutLeaves → ℕ → Record → List Cell → List Cell
cells_cut Old i r cs = cs
cells_cut New i r cs = slice_set cs i (Held r)
cells_cut Tears i r cs = slice_set cs i Torn

-- the cells after a write of r to place i, by its answer and by what a cut leaves
abbrev pub cells_after : Written → CutLeaves → ℕ → Record → List Cell → List Cell
cells_after Off v i r cs = cs
cells_after Outside v i r cs = cs
cells_after Cut v i r cs = cells_cut v i r cs
cells_after Done v i r cs = slice_set cs i (Held r)

-- power is off, and nothing moves
pub record WriteOff (d e : Device) : Type 0 where
  pub off : d.on ≡ false
  pub same : e ≡ d

-- power is on, the place lies beyond the list, and nothing moves
pub record WriteOutside (d : Device) (i : ℕ) (e : Device) : Type 0 where
  pub powered : d.on ≡ true
  pub beyond : length d.cells ≤ i
  pub same : e ≡ d

-- the charge is used up: power goes off, and the cell is as a cut leaves it
pub record WriteCut (d : Device) (i : ℕ) (r : Record) (e : Device) (v : CutLeaves) : Type 0 where
  pub powered : d.on ≡ true
  pub inside : i < length d.cells
  pub empty : d.charge ≡ 0
  pub after : e.cells ≡ cells_cut v i r d.cells
  pub off : e.on ≡ false
  pub spent : e.charge ≡ 0

-- the record is stored, for one unit of charge
pub record WriteDone (d : Device) (i : ℕ) (r : Record) (e : Device) : Type 0 where
  pub powered : d.on ≡ true
  pub inside : i < length d.cells
  pub paid : d.charge ≡ e.charge + 1
  pub after : e.cells ≡ slice_set d.cells i (Held r)
  pub still : e.on ≡ true

-- what a write of r to place i does, by its answer
abbrev pub Writes : Device → ℕ → Record → Written → Device → Type 0
Writes d i r Off e = WriteOff d e
Writes d i r Outside e = WriteOutside d i e
Writes d i r Cut e = (v : CutLeaves) × WriteCut d i r e v
Writes d i r Done e = WriteDone d i r e

-- power is on with charge n, and no cell moves
pub record DeviceOn (d : Device) (n : ℕ) (e : Device) : Type 0 where
  pub same : e.cells ≡ d.cells
  pub powered : e.on ≡ true
  pub charged : e.charge ≡ n

-- a write that does not begin leaves everything as it was; any other touches one cell at most
abbrev pub WriteMoves : {X : Type 0} → (X → X → Type 0) → X → Written → X → Type 0
WriteMoves touches s Off t = t ≡ s
WriteMoves touches s Outside t = t ≡ s
WriteMoves touches s Cut t = touches s t
WriteMoves touches s Done t = touches s t
