-- Runs of raises and switchings on of any store, and their law.
use Rattle.std.specs.Prelude.{◌≡◌, ℕ, Bool, true, false, cond, ◌&&◌, ◌⊎◌, Some, Option, ◌==◌, ◌≢◌}
use Rattle.marks.specs.declared.mark.Pair.{Pair}
use Rattle.marks.specs.declared.mark.Mark.{Mark}
use Rattle.marks.specs.declared.mark.Raised.{Raised}
use Rattle.marks.specs.declared.mark.Raised.TheVariants.{Off, Low, Full, Cut, Done}
use Rattle.marks.specs.Positions.{above, same_pair}
use Rattle.marks.specs.State.{State, Raises, SwitchedOn}

-- what can be done to a store's meaning, from s on: raises with any answer, cuts that stood or not, switchings on
pub data Run (s : State) : State → Type 0 where
  begun : Run s s
  raised : {t u : State} → Run s t → (p : Pair) (m : Mark) (w : Raised) → Raises t p m w u → Run s u
  switched : {t u : State} → Run s t → (n : ℕ) → SwitchedOn t n u → Run s u

-- a raise was written: it answered Done, or its cut stood
abbrev pub wrote : (s : State) (p : Pair) (m : Mark) (w : Raised) (t : State) → Raises s p m w t → Bool
wrote s p m Off t x = false
wrote s p m Low t x = false
wrote s p m Full t x = false
wrote s p m Cut t x = x.1.0
wrote s p m Done t x = true

-- the mark that was last written for q in a run, or else the one that q began with
abbrev pub last_mark : {s t : State} → Run s t → Pair → Option Mark
last_mark {s} begun q = s.mark q
last_mark (raised {t} {u} run p m w x) q = cond (wrote t p m w u x && same_pair q p) (Some m) (last_mark run q)
last_mark (switched run n x) q = last_mark run q

-- the same mark, or a higher one
abbrev pub NotLower : Option Mark → Option Mark → Type 0
NotLower o o' = (o' ≡ o) ⊎ ((m : Mark) × (o' ≡ Some m) × (above o m.position ≡ true))

-- a run raises no mark of q
abbrev pub Spares : {s t : State} → Pair → Run s t → Type 0
Spares q begun = Unit {0}
Spares q (raised run p m w x) = (q ≢ p) × Spares q run
Spares q (switched run n x) = Spares q run

-- marks never go down, end as last written, and move by raises of their own pair alone
pub record Lawful {s t : State} (run : Run s t) : Type 0 where
  pub rising : (q : Pair) → NotLower (s.mark q) (t.mark q)
  pub last : (q : Pair) → t.mark q ≡ last_mark run q
  pub spared : (q : Pair) → Spares q run → t.mark q ≡ s.mark q

-- every run of every store is lawful
abbrev pub Law : Type 0
Law = (s t : State) (run : Run s t) → Lawful run

-- the answer of a raise: power, then the mark, then room, then charge
abbrev pub answer_of : State → Pair → Mark → Raised
answer_of s p m = cond s.on (cond (above (s.mark p) m.position) (cond (s.room p) (cond (s.charge == 0) Cut Done) Full) Low) Off

-- a state fixes the answer of a raise
abbrev pub OneAnswer : Type 0
OneAnswer = (s t : State) (p : Pair) (m : Mark) (w : Raised) → Raises s p m w t → w ≡ answer_of s p m
