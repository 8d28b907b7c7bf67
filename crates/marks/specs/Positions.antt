-- The order of positions, and equality of pairs.
use Rattle.std.specs.Prelude.{◌≡◌, ◌<◌, Bool, true, ◌&&◌, ◌||◌, ◌⊎◌, Some, None, Option, ◌==◌, nat_lt}
use Rattle.std.specs.Str.{bytes_eq}
use Rattle.marks.specs.declared.mark.Pair.{Pair}
use Rattle.marks.specs.declared.mark.Position.{Position}
use Rattle.marks.specs.declared.mark.Mark.{Mark}

-- p lies before q: its epoch is lower, or the epochs are equal and its counter is lower
abbrev pub Earlier : Position → Position → Type 0
Earlier p q = (p.epoch < q.epoch) ⊎ ((p.epoch ≡ q.epoch) × (p.counter < q.counter))

-- the same as a test
abbrev pub before : Position → Position → Bool
before p q = nat_lt p.epoch q.epoch || (p.epoch == q.epoch && nat_lt p.counter q.counter)

-- a position lies above a pair's mark; every position lies above none
abbrev pub above : Option Mark → Position → Bool
above None p = true
above (Some m) p = before m.position p

-- the same sid and the same kid
abbrev pub same_pair : Pair → Pair → Bool
same_pair p q = bytes_eq p.sid q.sid && bytes_eq p.kid q.kid
