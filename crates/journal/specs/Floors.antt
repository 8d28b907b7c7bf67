-- A store's meaning above a floor.
use Rattle.std.specs.Prelude.{◌≡◌, ℕ, false, cond, ◌⊎◌, replicate, Some, None, Option}
use Rattle.marks.specs.declared.mark.Pair.{Pair}
use Rattle.marks.specs.declared.mark.Mark.{Mark}
use Rattle.marks.specs.Positions.{before}
use Rattle.marks.specs.declared.mark.Raised.{Raised}
use Rattle.marks.specs.declared.mark.Raised.TheVariants.{Low}
use Rattle.marks.specs.State.{State, Raises}

-- the first position of an epoch, with a hash of zeros
abbrev pub base : ℕ → Mark
base f = record { position = record { epoch = f; counter = 0 }; hash = replicate 32 0 }

-- the higher of a mark and the floor, at equal positions the mark
abbrev pub floored : ℕ → Option Mark → Option Mark
floored f None = Some (base f)
floored f (Some m) = cond (before m.position (base f).position) (Some (base f)) (Some m)

-- what a floor over a store means: its marks, and all else the store's
abbrev pub on_floor : ℕ → State → State
on_floor f s = record { mark = λ p. floored f (s.mark p); room = s.room; on = s.on; charge = s.charge }

-- what the memory below did, and that the floor stays
pub record FloorMoves (Below : Type 0) (f g : ℕ) : Type 0 where
  pub below : Below
  pub epoch : g ≡ f

-- the position does not lie above the floor: the raise is low, and the store below is as it was
pub record FloorLow (f : ℕ) (s : State) (m : Mark) (w : Raised) (t : State) : Type 0 where
  pub low : before (base f).position m.position ≡ false
  pub answer : w ≡ Low
  pub same : t ≡ s

-- what a raise does to the store below: it is raised, unless the floor stops it
abbrev pub RaisesBelow : ℕ → State → Pair → Mark → Raised → State → Type 0
RaisesBelow f s p m w t = Raises s p m w t ⊎ FloorLow f s m w t
