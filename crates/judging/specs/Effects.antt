-- What a listening leaves of the store and of the work buffer.
use Rattle.std.specs.Prelude.{◌≡◌, ℕ, Bool, true, false, List, [], Some, None, Option, ◌==◌}
use Rattle.answers.specs.declared.refusal.Refusal.{Refusal}
use Rattle.answers.specs.Refusals.{number_of}
use Rattle.answers.specs.Questions.{Questions, otherwise, ◌⨟◌}
use Rattle.marks.specs.State.{State, Begun, CutShort, Completed}
use Rattle.judging.specs.declared.answer.Release.{Release}
use Rattle.judging.specs.declared.answer.Verdict.{Verdict}
use Rattle.judging.specs.declared.answer.Verdict.TheVariants.{Quiet, Duplicate, Refused, Released}
use Rattle.judging.specs.declared.answer.Answer.{Answer}

-- what a verdict releases
abbrev pub released_by : Verdict → Option Release
released_by Quiet = None
released_by Duplicate = None
released_by (Refused refusal) = None
released_by (Released d) = Some d

-- what would be released if every question held: what the list ends in
abbrev pub offered : Questions Answer → Option Release
offered (otherwise a) = released_by a.verdict
offered (q ⨟ qs) = offered qs

-- the refusal of a write that was cut, 26, and no other
abbrev pub is_cut : Refusal → Bool
is_cut refusal = number_of refusal == 26

abbrev pub whether : Bool → Type 0 → Type 0 → Type 0
whether true A B = A
whether false A B = B

-- the offer's write was begun and cut: power is off, and the pair's mark is the offer's if the write stood, and else as it was
pub record CutWrite (offer : Option Release) (s t : State) : Type 0 where
  pub release : Release
  pub is : offer ≡ Some release
  pub begun : Begun s release.pair release.mark
  pub stood : Bool
  pub left : CutShort s release.pair release.mark t stood

-- the offer is released and its mark is written
pub record DoneWrite (offer : Option Release) (s : State) (d : Release) (t : State) : Type 0 where
  pub is : offer ≡ Some d
  pub begun : Begun s d.pair d.mark
  pub left : Completed s d.pair d.mark t

-- what the store means after a verdict: only a release and a cut write change anything
abbrev pub Leaves : Option Release → State → Verdict → State → Type 0
Leaves offer s Quiet t = t ≡ s
Leaves offer s Duplicate t = t ≡ s
Leaves offer s (Refused refusal) t = whether (is_cut refusal) (CutWrite offer s t) (t ≡ s)
Leaves offer s (Released d) t = DoneWrite offer s d t

-- what a verdict leaves of the store's memory: one cell at most differs after a release or a cut write, and nothing after any other
abbrev pub StoreMoves : {S : Type 0} → (S → S → Type 0) → S → Verdict → S → Type 0
StoreMoves touches s Quiet t = t ≡ s
StoreMoves touches s Duplicate t = t ≡ s
StoreMoves touches s (Refused refusal) t = whether (is_cut refusal) (touches s t) (t ≡ s)
StoreMoves touches s (Released d) t = touches s t

-- what stands at the front of the work buffer after a verdict: the message after a release, and nothing after any other
abbrev pub left_at : Verdict → List ℕ → List ℕ
left_at Quiet message = []
left_at Duplicate message = []
left_at (Refused refusal) message = []
left_at (Released d) message = message
