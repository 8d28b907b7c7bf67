-- What a frame's message says of itself: its pair, its mark, and what is released of it.
use Rattle.std.specs.Prelude.{ℕ, ◌-◌, Bool, true, false, ◌&&◌, List, length, take, Some, None, Ok, Err, Option, Result, ◌==◌}
use Rattle.std.specs.Str.{bytes_eq}
use Rattle.sha256.specs.Sha256.{sha256_of}
use Rattle.line.specs.Bits.{bits_in}
use Rattle.line.specs.Hearing.{hears_line}
use Rattle.message.specs.declared.types.View.{View}
use Rattle.message.specs.Checks.{transcript_of}
use Rattle.commands.specs.declared.types.Command.{Command}
use Rattle.marks.specs.declared.mark.Pair.{Pair}
use Rattle.marks.specs.declared.mark.Mark.{Mark}
use Rattle.judging.specs.declared.answer.Release.{Release}
use Rattle.judging.specs.Inputs.{Inputs}

-- a frame's message: its octets but the two of the FCS
abbrev pub message_in : List ℕ → List ℕ
message_in octets = take (length octets - 2) octets

-- the message of the frame that is heard in a burst
abbrev pub message_heard : Inputs → List ℕ
message_heard i = message_in (hears_line (bits_in i.burst i.count) i.start).octets

-- the sender and its key
abbrev pub pair_of : View → Pair
pair_of v = record { sid = v.mid.sid; kid = v.auth.kid }

-- the position, with the hash of what is signed
abbrev pub mark_by : View → List ℕ → Mark
mark_by v transcript = record { position = record { epoch = v.mid.epoch; counter = v.mid.counter }; hash = sha256_of transcript }

abbrev pub mark_of : List ℕ → View → Mark
mark_of os v = mark_by v (transcript_of os v)

-- what is released of a message: pair, position and hash, length, command
abbrev pub release_of : List ℕ → View → Command → Release
release_of os v command = record { pair = pair_of v; mark = mark_of os v; length = length os; command = command }

-- the mark that is kept is this very one, hash included
abbrev pub repeats : Option Mark → Mark → Bool
repeats None m = false
repeats (Some kept) m = kept.position.epoch == m.position.epoch && kept.position.counter == m.position.counter && bytes_eq kept.hash m.hash

-- what was read, unless it was refused
abbrev pub taken : {X E : Type 0} → Result X E → Option X
taken (Ok x) = Some x
taken (Err e) = None

-- there is none
abbrev pub is_absent : {X : Type 0} → Option X → Bool
is_absent None = true
is_absent (Some x) = false
