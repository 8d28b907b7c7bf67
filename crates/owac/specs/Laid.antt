-- A store, bare or under a floor.
use Rattle.std.specs.Prelude.{◌≡◌, ℕ, Some, None, Option}
use Rattle.journal.specs.Floors.{on_floor}
use Rattle.marks.specs.State.{State}
use Rattle.owac.specs.declared.pile.Laid.{Laid}
use Rattle.owac.specs.declared.pile.Laid.TheVariants.{Bare, Floored}

-- what a store means above a floor, if there is one
abbrev pub on_laid : Option ℕ → State → State
on_laid None s = s
on_laid (Some a) s = on_floor a s

-- the store
abbrev pub under : {S : Type 0} → Laid S → S
under (Bare s) = s
under (Floored f) = f.below

-- the epoch of the floor, if there is one
abbrev pub height : {S : Type 0} → Laid S → Option ℕ
height (Bare s) = None
height (Floored f) = Some f.epoch

-- what the memory below did, and that the floor stays
pub record LaidMoves (Below : Type 0) (f g : Option ℕ) : Type 0 where
  pub below : Below
  pub height : g ≡ f
