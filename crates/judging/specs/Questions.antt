-- The questions in their order; the first no ends the judging.
use Rattle.std.specs.Prelude.{ℕ, not, length, nat_le, nat_lt}
use Rattle.answers.specs.declared.refusal.Refusal.{Refusal}
use Rattle.answers.specs.declared.refusal.Refusal.TheVariants.{WorkTooShort, OutOfBounds, StoreOff, CborParse, Indefinite, NotDeterministic, Schema, ProfileMismatch, SizeLimit, ContextMismatch, KidUnknown, SignatureLength, AuthFail, Replay, Expired, ExpTooFar, UnknownCommand, BadArguments, AllowlistDeny, DuoPolicyUnknown, NoRoom, NotRaised}
use Rattle.answers.specs.Questions.{Questions, otherwise, ◌⨟◌, ask, found}
use Rattle.line.specs.Bits.{bits_in}
use Rattle.line.specs.Hearing.{work_octets, in_bounds, line_questions}
use Rattle.message.specs.Messages.{is_readable, is_definite, is_deterministic}
use Rattle.message.specs.Parts.{view_of}
use Rattle.message.specs.Sizes.{sizes_fit}
use Rattle.message.specs.Checks.{profile_matches, echo_matches, signature_length_fits, signature_of, transcript_of, not_expired, not_too_far}
use Rattle.commands.specs.Orders.{listed_type}
use Rattle.commands.specs.Octets.{request_at}
use Rattle.commands.specs.Release.{allowed}
use Rattle.marks.specs.Positions.{above}
use Rattle.marks.specs.State.{State}
use Rattle.judging.specs.declared.answer.Verdict.{Verdict}
use Rattle.judging.specs.declared.answer.Verdict.TheVariants.{Quiet, Duplicate, Refused, Released}
use Rattle.judging.specs.declared.answer.Answer.{Answer}
use Rattle.judging.specs.declared.answer.Release.{Release}
use Rattle.judging.specs.Inputs.{Inputs}
use Rattle.judging.specs.Frames.{message_in, pair_of, mark_of, release_of, repeats, taken, is_absent}

-- the answers, each with the next place
abbrev pub refused : Refusal → ℕ → Answer
refused refusal next = record { verdict = Refused refusal; next = next }

abbrev pub quiet : ℕ → Answer
quiet next = record { verdict = Quiet; next = next }

abbrev pub duplicate : ℕ → Answer
duplicate next = record { verdict = Duplicate; next = next }

abbrev pub released : Release → ℕ → Answer
released release next = record { verdict = Released release; next = next }

-- a verdict with the next place
abbrev pub answered : Verdict → ℕ → Answer
answered verdict next = record { verdict = verdict; next = next }

-- every question; those from the opening flag to the FCS (quiet, 4 to 7) are the line's
abbrev pub questions : Inputs → State → Questions Answer
questions i s =
    ask (nat_le work_octets i.work) (refused WorkTooShort i.start) ⨟
    ask (in_bounds (length i.burst) i.count i.start) (refused OutOfBounds i.start) ⨟
    ask s.on (refused StoreOff i.start) ⨟
    line_questions refused quiet (bits_in i.burst i.count) i.start (λ next octets.
    ask (is_readable (message_in octets)) (refused CborParse next) ⨟
    ask (is_definite (message_in octets)) (refused Indefinite next) ⨟
    ask (is_deterministic (message_in octets)) (refused NotDeterministic next) ⨟
    found (view_of (message_in octets)) (refused Schema next) (λ v.
    ask (profile_matches v) (refused ProfileMismatch next) ⨟
    ask (sizes_fit (message_in octets) v) (refused SizeLimit next) ⨟
    ask (echo_matches (message_in octets) v) (refused ContextMismatch next) ⨟
    ask (i.conditions.known v.auth.kid v.auth.alg) (refused KidUnknown next) ⨟
    ask (signature_length_fits v) (refused SignatureLength next) ⨟
    ask (i.conditions.good v.auth.kid v.auth.alg (transcript_of (message_in octets) v) (signature_of (message_in octets) v)) (refused AuthFail next) ⨟
    ask (not (repeats (s.mark (pair_of v)) (mark_of (message_in octets) v))) (duplicate next) ⨟
    ask (above (s.mark (pair_of v)) (mark_of (message_in octets) v).position) (refused Replay next) ⨟
    ask (not_expired i.conditions.clock v.mid.exp) (refused Expired next) ⨟
    ask (not_too_far i.conditions.clock v.mid.exp) (refused ExpTooFar next) ⨟
    ask (listed_type v.cmd.kind) (refused UnknownCommand next) ⨟
    found (taken (request_at (message_in octets) v.cmd.kind v.cmd.args.start)) (refused BadArguments next) (λ request.
    found (allowed i.conditions.catalog i.conditions.suspect request) (refused AllowlistDeny next) (λ command.
    ask (is_absent v.cmd.duo) (refused DuoPolicyUnknown next) ⨟
    ask (s.room (pair_of v)) (refused NoRoom next) ⨟
    ask (nat_lt 0 s.charge) (refused NotRaised next) ⨟
    otherwise (released (release_of (message_in octets) v command) next)))))
