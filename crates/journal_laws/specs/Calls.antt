-- A list of calls on a store, made one after the other.
use Rattle.std.specs.Prelude.{◌≡◌, ℕ, min, List, [], ◌∷◌, ◌++◌, length, take, drop, ◌≢◌}
use Rattle.marks.specs.declared.mark.Pair.{Pair}
use Rattle.marks.specs.declared.mark.Mark.{Mark}
use Rattle.marks.specs.declared.mark.Raised.{Raised}
use Rattle.marks.specs.State.{State, Raises, RaiseMoves, SwitchedOn}
use Rattle.journal_laws.specs.declared.call.Call.{Call}
use Rattle.journal_laws.specs.declared.call.Call.TheVariants.{Raise, SwitchOn}
use Rattle.journal_laws.specs.declared.call.Reply.{Reply}
use Rattle.journal_laws.specs.declared.call.Reply.TheVariants.{Answered, On}
use Rattle.journal_laws.specs.Runs.{Run, begun, raised, switched, Lawful}

-- none of the calls raises q's mark
abbrev pub Spared : Pair → List Call → Type 0
Spared q [] = Unit {0}
Spared q (Raise p m ∷ cs) = (q ≢ p) × Spared q cs
Spared q (SwitchOn n ∷ cs) = Spared q cs

-- over a kind of store
module _ {S : Type 0} (state : S → State) (touches rests : S → S → Type 0) where
  -- a raise, in its meaning and in memory
  pub record RaiseDone (s : S) (p : Pair) (m : Mark) (w : Raised) (t : S) : Type 0 where
    pub meaning : Raises (state s) p m w (state t)
    pub memory : RaiseMoves touches s w t

  -- a switching on, in its meaning and in memory
  pub record SwitchDone (s : S) (n : ℕ) (t : S) : Type 0 where
    pub meaning : SwitchedOn (state s) n (state t)
    pub memory : rests s t

  -- one call, its reply, and the store before and after it
  abbrev pub Carries : S → Call → Reply → S → Type 0
  Carries s (Raise p m) (Answered w) t = RaiseDone s p m w t
  Carries s (Raise p m) On t = ⊥
  Carries s (SwitchOn n) (Answered w) t = ⊥
  Carries s (SwitchOn n) On t = SwitchDone s n t

  -- the run from s on that calls and their replies tell
  pub data Tells (s : S) : List Call → List Reply → (t : S) → Run (state s) (state t) → Type 0 where
    nothing : Tells s [] [] s begun
    raise : {cs : List Call} {rs : List Reply} {t u : S} {run : Run (state s) (state t)} (p : Pair) (m : Mark) (w : Raised) → Tells s cs rs t run →
        (x : RaiseDone t p m w u) → Tells s (cs ++ (Raise p m ∷ [])) (rs ++ (Answered w ∷ [])) u (raised run p m w x.meaning)
    switch : {cs : List Call} {rs : List Reply} {t u : S} {run : Run (state s) (state t)} (n : ℕ) → Tells s cs rs t run →
        (x : SwitchDone t n u) → Tells s (cs ++ (SwitchOn n ∷ [])) (rs ++ (On ∷ [])) u (switched run n x.meaning)

  -- from s to t leads a lawful run of just these calls and replies
  pub record LawfulRun (s : S) (cs : List Call) (rs : List Reply) (t : S) : Type 0 where
    pub run : Run (state s) (state t)
    pub tells : Tells s cs rs t run
    pub lawful : Lawful run

  -- n calls were carried out: all, or as many as there were places for replies; the places behind are as they were
  pub record Ran (s : S) (cs : List Call) (before : List Reply) (n : ℕ) (after : List Reply) (t : S) : Type 0 where
    pub count : n ≡ min (length cs) (length before)
    pub run : LawfulRun s (take n cs) (take n after) t
    pub rest : drop n after ≡ drop n before
