-- The receiver's answers as numbers.
use Rattle.std.specs.Prelude.{ℕ, cond, replicate, pos, Some, None, Option, ◌==◌}
use Rattle.answers.specs.Refusals.{number_of}
use Rattle.commands.specs.declared.types.Command.{Command}
use Rattle.commands.specs.declared.types.Command.TheVariants.{Heartbeat, Queue, Suggest, Remove, State, Seek, Rate, Next, Previous, Text}
use Rattle.marks.specs.declared.mark.Pair.{Pair}
use Rattle.marks.specs.declared.mark.Mark.{Mark}
use Rattle.judging.specs.declared.answer.Verdict.{Verdict}
use Rattle.judging.specs.declared.answer.Verdict.TheVariants.{Quiet, Duplicate, Refused, Released}
use Rattle.judging.specs.declared.answer.Answer.{Answer}
use Rattle.owac_c.specs.declared.host.OwacOptional.{OwacOptional}
use Rattle.owac_c.specs.declared.host.OwacPair.{OwacPair}
use Rattle.owac_c.specs.declared.host.OwacMark.{OwacMark}
use Rattle.owac_c.specs.declared.answer.OwacSpan.{OwacSpan}
use Rattle.owac_c.specs.declared.answer.OwacCommand.{OwacCommand}
use Rattle.owac_c.specs.declared.answer.OwacAnswer.{OwacAnswer}
use Rattle.owac_c.specs.Supplies.{option_as}

-- a pair
abbrev pub pair_in : OwacPair → Pair
pair_in p = record { sid = p.sid; kid = p.kid }

abbrev pub pair_as : Pair → OwacPair
pair_as p = record { sid = p.sid; kid = p.kid }

-- no pair
abbrev pub no_pair : OwacPair
no_pair = record { sid = replicate 16 0; kid = replicate 16 0 }

-- a mark; all 0 where there is none
abbrev pub mark_numbers : Mark → OwacMark
mark_numbers m = record { epoch = m.position.epoch; counter = m.position.counter; hash = m.hash }

abbrev pub no_mark : OwacMark
no_mark = record { epoch = 0; counter = 0; hash = replicate 32 0 }

abbrev pub mark_as : Option Mark → OwacMark
mark_as None = no_mark
mark_as (Some m) = mark_numbers m

abbrev pub found_as : Option Mark → ℕ
found_as None = 0
found_as (Some m) = 1

-- what a command has not
abbrev absent : OwacOptional
absent = option_as None

abbrev nowhere : OwacSpan
nowhere = record { start = 0; length = 0 }

-- a command: its type's number and its own arguments; all others are 0 and absent
abbrev pub command_as : Command → OwacCommand
command_as (Heartbeat time) =
    record { kind = 0; priority = pos 0; weight = pos 0; state = 0; percent = 0; target = 0; mode = 0; milliseconds = pos 0; track = 0; item = 0; time = option_as time; earliest = absent; until = absent; text = nowhere }
command_as (Queue track priority earliest until) =
    record { kind = 1; priority = priority; weight = pos 0; state = 0; percent = 0; target = 0; mode = 0; milliseconds = pos 0; track = track; item = 0; time = absent; earliest = option_as earliest; until = option_as until; text = nowhere }
command_as (Suggest track weight) =
    record { kind = 2; priority = pos 0; weight = weight; state = 0; percent = 0; target = 0; mode = 0; milliseconds = pos 0; track = track; item = 0; time = absent; earliest = absent; until = absent; text = nowhere }
command_as (Remove item) =
    record { kind = 3; priority = pos 0; weight = pos 0; state = 0; percent = 0; target = 0; mode = 0; milliseconds = pos 0; track = 0; item = item; time = absent; earliest = absent; until = absent; text = nowhere }
command_as (State state) =
    record { kind = 10; priority = pos 0; weight = pos 0; state = state; percent = 0; target = 0; mode = 0; milliseconds = pos 0; track = 0; item = 0; time = absent; earliest = absent; until = absent; text = nowhere }
command_as (Seek milliseconds) =
    record { kind = 11; priority = pos 0; weight = pos 0; state = 0; percent = 0; target = 0; mode = 0; milliseconds = milliseconds; track = 0; item = 0; time = absent; earliest = absent; until = absent; text = nowhere }
command_as (Rate percent) =
    record { kind = 12; priority = pos 0; weight = pos 0; state = 0; percent = percent; target = 0; mode = 0; milliseconds = pos 0; track = 0; item = 0; time = absent; earliest = absent; until = absent; text = nowhere }
command_as Next =
    record { kind = 13; priority = pos 0; weight = pos 0; state = 0; percent = 0; target = 0; mode = 0; milliseconds = pos 0; track = 0; item = 0; time = absent; earliest = absent; until = absent; text = nowhere }
command_as Previous =
    record { kind = 14; priority = pos 0; weight = pos 0; state = 0; percent = 0; target = 0; mode = 0; milliseconds = pos 0; track = 0; item = 0; time = absent; earliest = absent; until = absent; text = nowhere }
command_as (Text target mode text) =
    record { kind = 20; priority = pos 0; weight = pos 0; state = 0; percent = 0; target = target; mode = mode; milliseconds = pos 0; track = 0; item = 0; time = absent; earliest = absent; until = absent; text = record { start = text.start; length = text.len } }

abbrev pub no_command : OwacCommand
no_command =
    record { kind = 0; priority = pos 0; weight = pos 0; state = 0; percent = 0; target = 0; mode = 0; milliseconds = pos 0; track = 0; item = 0; time = absent; earliest = absent; until = absent; text = nowhere }

-- an answer that hands nothing out
abbrev pub bare_as : ℕ → ℕ → ℕ → OwacAnswer
bare_as kind refusal next =
    record { kind = kind; refusal = refusal; next = next; length = 0; pair = no_pair; mark = no_mark; command = no_command }

-- a verdict and the next place: 0 quiet, 1 duplicate, 2 refused, 3 released
abbrev pub verdict_as : Verdict → ℕ → OwacAnswer
verdict_as Quiet next = bare_as 0 0 next
verdict_as Duplicate next = bare_as 1 0 next
verdict_as (Refused refusal) next = bare_as 2 (number_of refusal) next
verdict_as (Released d) next =
    record { kind = 3; refusal = 0; next = next; length = d.length; pair = pair_as d.pair; mark = mark_numbers d.mark; command = command_as d.command }

abbrev pub answer_as : Answer → OwacAnswer
answer_as a = verdict_as a.verdict a.next

-- a command that has the text whose place the numbers tell, if their type is 20, and else one that has none
abbrev pub text_command : OwacCommand → Command
text_command c = cond (c.kind == 20) (Text c.target c.mode (record { start = c.text.start; len = c.text.length })) Next
