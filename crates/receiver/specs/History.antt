-- All that can be done with a receiver, and the law of it.
use Rattle.std.specs.Prelude.{◌≡◌, ℕ, ◌<◌, Bool, true, false, cond, ◌⊎◌, List, [], ◌∷◌, Some, None, Option}
use Rattle.answers.specs.Questions.{first}
use Rattle.marks.specs.declared.mark.Pair.{Pair}
use Rattle.marks.specs.declared.mark.Mark.{Mark}
use Rattle.marks.specs.Positions.{Earlier, same_pair}
use Rattle.marks.specs.State.{State, SwitchedOn}
use Rattle.judging.specs.declared.answer.Release.{Release}
use Rattle.judging.specs.declared.answer.Verdict.{Verdict}
use Rattle.judging.specs.declared.answer.Verdict.TheVariants.{Quiet, Duplicate, Refused, Released}
use Rattle.judging.specs.declared.answer.Answer.{Answer}
use Rattle.judging.specs.Inputs.{Inputs}
use Rattle.judging.specs.Questions.{questions}
use Rattle.judging.specs.Effects.{released_by, offered, is_cut, whether, CutWrite, Leaves}
use Rattle.receiver.specs.Others.{every_other}

-- one listening: the answer is that of the first question with a no, and the store is left as that verdict leaves it
pub record Listens (i : Inputs) (s : State) (a : Answer) (t : State) : Type 0 where
  pub answer : a ≡ first (questions i s)
  pub leaves : Leaves (offered (questions i s)) s a.verdict t

-- a receiver is made over a store in any state, and then made to listen or switched on, again and again; the index is what the store means at the end
pub data History : State → Type 0 where
  made : (s : State) → History s
  listened : {s t : State} → History s → (i : Inputs) (a : Answer) → Listens i s a t → History t
  switched : {s t : State} → History s → (n : ℕ) → SwitchedOn s n t → History t

-- what a cut write left standing, if its write stood
abbrev pub stood_at : (offer : Option Release) (s t : State) (cut : Bool) → whether cut (CutWrite offer s t) (t ≡ s) → Option Release
stood_at offer s t true x = cond x.stood (Some x.release) None
stood_at offer s t false x = None

-- the cut write of a listening, if it had one and it stood
abbrev pub stood_by : (offer : Option Release) (s : State) (v : Verdict) (t : State) → Leaves offer s v t → Option Release
stood_by offer s Quiet t x = None
stood_by offer s Duplicate t x = None
stood_by offer s (Refused refusal) t x = stood_at offer s t (is_cut refusal) x
stood_by offer s (Released d) t x = None

-- one more mark of p's, if it is p's
abbrev pub with_mark : Option Release → Pair → List Mark → List Mark
with_mark None p ms = ms
with_mark (Some d) p ms = cond (same_pair d.pair p) (d.mark ∷ ms) ms

-- the mark that a pair had when the receiver was made, if any
abbrev pub first_mark : {t : State} → History t → Pair → Option Mark
first_mark (made s) p = s.mark p
first_mark (listened h i a step) p = first_mark h p
first_mark (switched h n step) p = first_mark h p

-- what was released for a pair, the last first
abbrev pub releases : {t : State} → History t → Pair → List Mark
releases (made s) p = []
releases (listened h i a step) p = with_mark (released_by a.verdict) p (releases h p)
releases (switched h n step) p = releases h p

-- a pair's cut writes that stood, the last first
abbrev pub cuts_that_stood : {t : State} → History t → Pair → List Mark
cuts_that_stood (made s) p = []
cuts_that_stood (listened {s} {t} h i a step) p = with_mark (stood_by (offered (questions i s)) s a.verdict t step.leaves) p (cuts_that_stood h p)
cuts_that_stood (switched h n step) p = cuts_that_stood h p

-- m lies above n
abbrev pub Later : Mark → Mark → Type 0
Later m n = Earlier n.position m.position

-- m is in the list
abbrev pub In : Mark → List Mark → Type 0
In m [] = ⊥
In m (n ∷ ns) = (m ≡ n) ⊎ In m ns

-- each lies above all that came before it
abbrev pub Rising : List Mark → Type 0
Rising [] = Unit {0}
Rising (m ∷ ms) = ((n : Mark) → In n ms → Later m n) × Rising ms

-- m is the first mark, a release or a cut write that stood
abbrev pub Among : Mark → Option Mark → List Mark → List Mark → Type 0
Among m firstly released cut = (firstly ≡ Some m) ⊎ (In m released ⊎ In m cut)

-- the highest of them, hash included: one of them, and above any other; none where there is none
abbrev pub Highest : Option Mark → Option Mark → List Mark → List Mark → Type 0
Highest None firstly released cut = (n : Mark) → Among n firstly released cut → ⊥
Highest (Some m) firstly released cut = Among m firstly released cut × ((n : Mark) → Among n firstly released cut → (n ≡ m) ⊎ Later m n)

-- at the end of a history each pair's mark is the highest of its first mark, its releases and its cut writes that stood
abbrev pub MarksHighest : {t : State} → History t → Type 0
MarksHighest {t} h = (p : Pair) → Highest (t.mark p) (first_mark h p) (releases h p) (cuts_that_stood h p)

-- the same when the receiver is made and after each call
abbrev pub Kept : {t : State} → History t → Type 0
Kept (made s) = MarksHighest (made s)
Kept (listened h i a step) = Kept h × MarksHighest (listened h i a step)
Kept (switched h n step) = Kept h × MarksHighest (switched h n step)

-- d is due: it is what the frame offers, every other question holds, its position lies above all that came before for its pair, the pair has room, and the charge
-- is above 0
pub record Due {s : State} (h : History s) (i : Inputs) (d : Release) : Type 0 where
  pub frame : offered (questions i s) ≡ Some d
  pub others : every_other (questions i s) ≡ true
  pub above : (m : Mark) → Among m (first_mark h d.pair) (releases h d.pair) (cuts_that_stood h d.pair) → Later d.mark m
  pub room : s.room d.pair ≡ true
  pub charged : 0 < s.charge

-- each listening released just what was due
abbrev pub Exact : {t : State} → History t → Type 0
Exact (made s) = Unit {0}
Exact (listened h i a step) = Exact h × ((d : Release) → (released_by a.verdict ≡ Some d → Due h i d) × (Due h i d → released_by a.verdict ≡ Some d))
Exact (switched h n step) = Exact h

-- the law of a history: the positions released for one pair rise strictly; marks are the highest; what is due is released, and nothing else
pub record Lawful {t : State} (h : History t) : Type 0 where
  pub rising : (p : Pair) → Rising (releases h p)
  pub kept : Kept h
  pub exact : Exact h

-- the law over all histories
abbrev pub Law : Type 0
Law = (t : State) (h : History t) → Lawful h

-- a listening is a step of this kind, and with it every history that led here goes on lawfully
pub record ListenGoesOn (i : Inputs) (s : State) (a : Answer) (t : State) : Type 0 where
  pub step : Listens i s a t
  pub lawful : (h : History s) → Lawful (listened h i a step)

-- the same of a switching on
pub record SwitchGoesOn (s : State) (n : ℕ) (t : State) : Type 0 where
  pub step : SwitchedOn s n t
  pub lawful : (h : History s) → Lawful (switched h n step)
