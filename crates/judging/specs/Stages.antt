-- The same questions, cut where the functions that ask them are cut: each stage with all that follows it.
use Rattle.std.specs.Prelude.{ℕ, Bool, not, List, nat_lt}
use Rattle.answers.specs.declared.refusal.Refusal.TheVariants.{CborParse, Indefinite, NotDeterministic, Schema, ProfileMismatch, SizeLimit, ContextMismatch, KidUnknown, SignatureLength, AuthFail, Replay, Expired, ExpTooFar, UnknownCommand, BadArguments, AllowlistDeny, DuoPolicyUnknown, NoRoom, NotRaised}
use Rattle.answers.specs.Questions.{Questions, otherwise, ◌⨟◌, ask, found}
use Rattle.message.specs.declared.types.View.{View}
use Rattle.message.specs.Messages.{is_readable, is_definite, is_deterministic}
use Rattle.message.specs.Parts.{view_of}
use Rattle.message.specs.Sizes.{sizes_fit}
use Rattle.message.specs.Checks.{profile_matches, echo_matches, signature_length_fits, signature_of, transcript_of, not_expired, not_too_far}
use Rattle.commands.specs.Orders.{listed_type}
use Rattle.commands.specs.Octets.{request_at}
use Rattle.commands.specs.Release.{allowed}
use Rattle.marks.specs.Positions.{above}
use Rattle.marks.specs.State.{State}
use Rattle.judging.specs.declared.answer.Answer.{Answer}
use Rattle.judging.specs.declared.answer.Release.{Release}
use Rattle.judging.specs.Inputs.{Conditions}
use Rattle.judging.specs.Frames.{pair_of, mark_of, release_of, repeats, taken, is_absent}
use Rattle.judging.specs.Questions.{refused, duplicate, released}

-- room and the write
abbrev pub raise_questions : State → ℕ → Release → Questions Answer
raise_questions s next d =
    ask (s.room d.pair) (refused NoRoom next) ⨟
    ask (nat_lt 0 s.charge) (refused NotRaised next) ⨟
    otherwise (released d next)

-- the command
abbrev pub command_questions : Bool → List ℕ → State → ℕ → List ℕ → View → Questions Answer
command_questions suspect catalog s next os v =
    ask (listed_type v.cmd.kind) (refused UnknownCommand next) ⨟
    found (taken (request_at os v.cmd.kind v.cmd.args.start)) (refused BadArguments next) (λ request.
    found (allowed catalog suspect request) (refused AllowlistDeny next) (λ command.
    ask (is_absent v.cmd.duo) (refused DuoPolicyUnknown next) ⨟
    raise_questions s next (release_of os v command)))

-- the mark and the clock
abbrev pub mark_questions : Conditions → State → ℕ → List ℕ → View → Questions Answer
mark_questions c s next os v =
    ask (not (repeats (s.mark (pair_of v)) (mark_of os v))) (duplicate next) ⨟
    ask (above (s.mark (pair_of v)) (mark_of os v).position) (refused Replay next) ⨟
    ask (not_expired c.clock v.mid.exp) (refused Expired next) ⨟
    ask (not_too_far c.clock v.mid.exp) (refused ExpTooFar next) ⨟
    command_questions c.suspect c.catalog s next os v

-- the signature
abbrev pub signature_questions : Conditions → State → ℕ → List ℕ → View → Questions Answer
signature_questions c s next os v =
    ask (c.known v.auth.kid v.auth.alg) (refused KidUnknown next) ⨟
    ask (signature_length_fits v) (refused SignatureLength next) ⨟
    ask (c.good v.auth.kid v.auth.alg (transcript_of os v) (signature_of os v)) (refused AuthFail next) ⨟
    mark_questions c s next os v

-- the fields by themselves
abbrev pub field_questions : Conditions → State → ℕ → List ℕ → View → Questions Answer
field_questions c s next os v =
    ask (profile_matches v) (refused ProfileMismatch next) ⨟
    ask (sizes_fit os v) (refused SizeLimit next) ⨟
    ask (echo_matches os v) (refused ContextMismatch next) ⨟
    signature_questions c s next os v

-- the octets of a message
abbrev pub message_questions : Conditions → State → ℕ → List ℕ → Questions Answer
message_questions c s next os =
    ask (is_readable os) (refused CborParse next) ⨟
    ask (is_definite os) (refused Indefinite next) ⨟
    ask (is_deterministic os) (refused NotDeterministic next) ⨟
    found (view_of os) (refused Schema next) (field_questions c s next os)
