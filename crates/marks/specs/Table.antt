-- What a write leaves of a table of cells.
use Rattle.std.specs.Prelude.{◌≡◌, ℕ, List, length, ◌≢◌}
use Rattle.marks.specs.declared.mark.Cell.{Cell}
use Rattle.marks.specs.declared.mark.Record.{Record}
use Rattle.marks.specs.declared.mark.CutLeaves.{CutLeaves}
use Rattle.marks.specs.declared.power.Power.{Power}
use Rattle.marks.specs.declared.mark.Written.{Written}
use Rattle.marks.specs.Device.{cell_at, cells_after}

-- lists of one length that differ at one place at most
pub record OnePlace (cs ds : List Cell) : Type 0 where
  pub long : length ds ≡ length cs
  pub place : ℕ
  pub others : (j : ℕ) → (j ≢ place) → cell_at ds j ≡ cell_at cs j

-- the cells after some write
pub record AfterStore (v : CutLeaves) (cs ds : List Cell) : Type 0 where
  pub answer : Written
  pub place : ℕ
  pub new : Record
  pub after : ds ≡ cells_after answer v place new cs

-- a table touched at one place at most, as a write or its cut leaves it
pub record TableTouched (cs : List Cell) (p : Power) (ds : List Cell) (q : Power) : Type 0 where
  pub leaves : q.leaves ≡ p.leaves
  pub cells : OnePlace cs ds
  pub written : AfterStore p.leaves cs ds

-- a table as it was
pub record TableKept (cs : List Cell) (p : Power) (ds : List Cell) (q : Power) : Type 0 where
  pub leaves : q.leaves ≡ p.leaves
  pub cells : ds ≡ cs
