-- The answers as numbers.
use Rattle.std.specs.Prelude.{ℕ, Ok, Err, Result}
use Rattle.answers.specs.declared.refusal.Refusal.{Refusal}
use Rattle.answers.specs.Refusals.{number_of}
use Rattle.line.specs.declared.heard.Heard.{Heard}
use Rattle.line.specs.declared.heard.Hearing.{Hearing}
use Rattle.line.specs.declared.heard.Hearing.TheVariants.{Quiet, Refused, Frame}
use Rattle.owac_c.specs.declared.answer.HeardFrame.{HeardFrame}
use Rattle.owac_c.specs.declared.answer.WrittenBurst.{WrittenBurst}

-- what was heard, and the next place
abbrev pub hearing_as : Hearing → ℕ → HeardFrame
hearing_as Quiet next = record { answer = 100; next = next; length = 0 }
hearing_as (Refused r) next = record { answer = number_of r; next = next; length = 0 }
hearing_as (Frame n) next = record { answer = 0; next = next; length = n }

abbrev pub heard_as : Heard → HeardFrame
heard_as h = hearing_as h.hearing h.next

-- what was written
abbrev pub written_as : Result ℕ Refusal → WrittenBurst
written_as (Ok n) = record { answer = 0; count = n }
written_as (Err r) = record { answer = number_of r; count = 0 }
