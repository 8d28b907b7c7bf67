-- The first four questions on the octets of a message, and what is found when all hold.
use Rattle.std.specs.Prelude.{ℕ, Bool, true, false, cond, List, Some, None, Ok, Err, Option, Result}
use Rattle.answers.specs.declared.refusal.Refusal.{Refusal}
use Rattle.answers.specs.declared.refusal.Refusal.TheVariants as refusal
use Rattle.items.specs.declared.types.Fault.{Fault}
use Rattle.items.specs.declared.types.Fault.TheVariants.{Malformed, Indefinite}
use Rattle.items.specs.declared.types.Reading.{Reading}
use Rattle.items.specs.Reading.{read_of}
use Rattle.message.specs.declared.types.View.{View}
use Rattle.message.specs.Parts.{view_of}

-- no fault comes before the end, or before a head with additional information 31
abbrev pub readable : Result Reading Fault → Bool
readable (Ok r) = true
readable (Err Malformed) = false
readable (Err Indefinite) = true

-- no head with additional information 31 is met
abbrev pub definite : Result Reading Fault → Bool
definite (Ok r) = true
definite (Err Malformed) = true
definite (Err Indefinite) = false

-- heads are shortest and keys ascend
abbrev pub deterministic : Result Reading Fault → Bool
deterministic (Ok r) = r.deterministic
deterministic (Err e) = false

-- the octets read as one item with nothing behind it, or a head with additional information 31 is met before any fault
abbrev pub is_readable : List ℕ → Bool
is_readable os = readable (read_of os)

-- no head has additional information 31
abbrev pub is_definite : List ℕ → Bool
is_definite os = definite (read_of os)

-- heads are shortest and keys ascend
abbrev pub is_deterministic : List ℕ → Bool
is_deterministic os = deterministic (read_of os)

-- what is shown, or the refusal where keys, types, lengths, version or alg are not those of a message
abbrev pub or_schema : Option View → Result View Refusal
or_schema (Some v) = Ok v
or_schema None = Err refusal.Schema

-- what the octets show, or the refusal of the first question that does not hold
unfoldable pub message_of : List ℕ → Result View Refusal
message_of os =
    cond (is_readable os)
    (cond (is_definite os)
    (cond (is_deterministic os)
    (or_schema (view_of os))
    (Err refusal.NotDeterministic))
    (Err refusal.Indefinite))
    (Err refusal.CborParse)
