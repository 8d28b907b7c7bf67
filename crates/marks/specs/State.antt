-- What a store of marks means, and what its calls do to that meaning.
use Rattle.std.specs.Prelude.{◌≡◌, ℕ, ◌+◌, Bool, true, false, cond, Some, Option, ◌≢◌}
use Rattle.marks.specs.declared.mark.Pair.{Pair}
use Rattle.marks.specs.declared.mark.Mark.{Mark}
use Rattle.marks.specs.declared.mark.Raised.{Raised}
use Rattle.marks.specs.declared.mark.Raised.TheVariants.{Off, Low, Full, Cut, Done}
use Rattle.marks.specs.Positions.{above}

-- each pair's mark, or none; whether a pair has room; power; how many raises it still lasts
pub record State : Type 0 where
  pub mark : Pair → Option Mark
  pub room : Pair → Bool
  pub on : Bool
  pub charge : ℕ

-- no other pair's mark moves
abbrev pub Others : State → Pair → State → Type 0
Others s p t = (q : Pair) → (q ≢ p) → t.mark q ≡ s.mark q

-- power is off, and nothing moves
pub record RaiseOff (s t : State) : Type 0 where
  pub off : s.on ≡ false
  pub same : t ≡ s

-- the position is not above the pair's mark, and nothing moves
pub record RaiseLow (s : State) (p : Pair) (m : Mark) (t : State) : Type 0 where
  pub powered : s.on ≡ true
  pub low : above (s.mark p) m.position ≡ false
  pub same : t ≡ s

-- the pair has no room, and nothing moves
pub record RaiseFull (s : State) (p : Pair) (m : Mark) (t : State) : Type 0 where
  pub powered : s.on ≡ true
  pub higher : above (s.mark p) m.position ≡ true
  pub full : s.room p ≡ false
  pub same : t ≡ s

-- a raise is written: power is on, the position is above the pair's mark, and the pair has room
pub record Begun (s : State) (p : Pair) (m : Mark) : Type 0 where
  pub powered : s.on ≡ true
  pub higher : above (s.mark p) m.position ≡ true
  pub roomy : s.room p ≡ true

-- the charge is used up: power goes off, and the mark is new if the write stood, and else old
pub record CutShort (s : State) (p : Pair) (m : Mark) (t : State) (stood : Bool) : Type 0 where
  pub empty : s.charge ≡ 0
  pub off : t.on ≡ false
  pub spent : t.charge ≡ 0
  pub mark : t.mark p ≡ cond stood (Some m) (s.mark p)
  pub others : Others s p t

-- the mark is new, for one unit of charge
pub record Completed (s : State) (p : Pair) (m : Mark) (t : State) : Type 0 where
  pub paid : s.charge ≡ t.charge + 1
  pub still : t.on ≡ true
  pub mark : t.mark p ≡ Some m
  pub others : Others s p t

-- what a raise of p to m does, by its answer
abbrev pub Raises : State → Pair → Mark → Raised → State → Type 0
Raises s p m Off t = RaiseOff s t
Raises s p m Low t = RaiseLow s p m t
Raises s p m Full t = RaiseFull s p m t
Raises s p m Cut t = Begun s p m × ((stood : Bool) × CutShort s p m t stood)
Raises s p m Done t = Begun s p m × Completed s p m t

-- power is on with charge n, and nothing else moves
pub record SwitchedOn (s : State) (n : ℕ) (t : State) : Type 0 where
  pub marks : (p : Pair) → t.mark p ≡ s.mark p
  pub rooms : (p : Pair) → t.room p ≡ s.room p
  pub powered : t.on ≡ true
  pub charged : t.charge ≡ n

-- a raise that is not written leaves everything as it was; any other touches one cell at most
abbrev pub RaiseMoves : {X : Type 0} → (X → X → Type 0) → X → Raised → X → Type 0
RaiseMoves touches s Off t = t ≡ s
RaiseMoves touches s Low t = t ≡ s
RaiseMoves touches s Full t = t ≡ s
RaiseMoves touches s Cut t = touches s t
RaiseMoves touches s Done t = touches s t
