-- Floors one upon another.
use Rattle.std.specs.Prelude.{◌≡◌, ℕ, List, [], ◌∷◌}
use Rattle.marks.specs.declared.mark.Pair.{Pair}
use Rattle.marks.specs.declared.mark.Mark.{Mark}
use Rattle.marks.specs.State.{State}
use Rattle.journal.specs.Floors.{on_floor}
use Rattle.journal_laws.specs.Runs.{answer_of}

-- a store under floors, the first of the list on top
abbrev pub pile : List ℕ → State → State
pile [] s = s
pile (f ∷ fs) s = on_floor f (pile fs s)

-- two stores of one meaning, which answer every raise alike
pub record Alike (s t : State) : Type 0 where
  pub marks : (p : Pair) → t.mark p ≡ s.mark p
  pub rooms : (p : Pair) → t.room p ≡ s.room p
  pub power : t.on ≡ s.on
  pub charges : t.charge ≡ s.charge
  pub answers : (p : Pair) (m : Mark) → answer_of t p m ≡ answer_of s p m

-- over every store, the pile acts as one floor of epoch f
abbrev pub ActsAs : ℕ → List ℕ → Type 0
ActsAs f fs = (s : State) → Alike (on_floor f s) (pile fs s)
