-- Released frames and the writer's.
use Rattle.std.specs.Prelude.{◌≡◌, ℕ, ◌-◌, ◌≤◌, true, List, length}
use Rattle.answers.specs.Questions.{first}
use Rattle.line.specs.Bits.{bits_in}
use Rattle.line.specs.Flags.{between, FirstAt, OpensAt}
use Rattle.line.specs.Burst.{body_of, frame, octet_count, longest_message, Written}
use Rattle.line.specs.Hearing.{work_octets}
use Rattle.line_laws.specs.Passing.{Octets}
use Rattle.marks.specs.State.{State}
use Rattle.judging.specs.declared.answer.Release.{Release}
use Rattle.judging.specs.declared.answer.Verdict.{Verdict}
use Rattle.judging.specs.declared.answer.Verdict.TheVariants.{Quiet, Duplicate, Refused, Released}
use Rattle.judging.specs.Inputs.{Inputs, Conditions}
use Rattle.judging.specs.Frames.{message_heard}
use Rattle.judging.specs.Questions.{questions}
use Rattle.judging.specs.Stages.{message_questions}

-- the frame's body stands between the opening flag and the closing flag, which is the next place, and is what the writer makes of the message
pub record SentFrame (i : Inputs) (d : Release) (next : ℕ) : Type 0 where
  pub b : ℕ
  pub opens : OpensAt (bits_in i.burst i.count) i.start b
  pub closes : FirstAt (bits_in i.burst i.count) b next
  pub body : between b next (bits_in i.burst i.count) ≡ body_of (message_heard i)
  pub long : d.length ≡ length (message_heard i)

-- so is every frame that is released
abbrev pub SentIf : Inputs → Verdict → ℕ → Type 0
SentIf i Quiet next = Unit {0}
SentIf i Duplicate next = Unit {0}
SentIf i (Refused refusal) next = Unit {0}
SentIf i (Released d) next = SentFrame i d next

-- what the writer makes of a message is judged by that message alone, and the next place is the closing flag's
abbrev pub WrittenIsJudged : Type 0
WrittenIsJudged =
    (m old new : List ℕ) (work : ℕ) (c : Conditions) (s : State) → Octets m → length m ≤ longest_message → octet_count (length (frame m)) ≤ length new → Written (frame m) old new → work_octets ≤ work
    → s.on ≡ true → first (questions (record { burst = new; count = length (frame m); start = 0; work = work; conditions = c }) s) ≡ first (message_questions c s (length (frame m) - 8) m)
