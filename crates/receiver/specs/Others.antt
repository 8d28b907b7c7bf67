-- The questions that do not ask the store for mark, room or charge.
use Rattle.std.specs.Prelude.{Bool, true, false, ◌&&◌, ◌||◌, ◌==◌}
use Rattle.answers.specs.Refusals.{number_of}
use Rattle.answers.specs.Questions.{Questions, otherwise, ◌⨟◌}
use Rattle.judging.specs.declared.answer.Verdict.{Verdict}
use Rattle.judging.specs.declared.answer.Verdict.TheVariants.{Quiet, Duplicate, Refused, Released}
use Rattle.judging.specs.declared.answer.Answer.{Answer}

-- the question is 18, with its duplicates, 25 or 26: it asks for the mark, the room or the charge
abbrev pub asks_mark_room_charge : Verdict → Bool
asks_mark_room_charge Quiet = false
asks_mark_room_charge Duplicate = true
asks_mark_room_charge (Refused refusal) = number_of refusal == 18 || number_of refusal == 25 || number_of refusal == 26
asks_mark_room_charge (Released d) = false

-- every other question holds
abbrev pub every_other : Questions Answer → Bool
every_other (otherwise a) = true
every_other (q ⨟ qs) = (asks_mark_room_charge q.refusal.verdict || q.holds) && every_other qs
