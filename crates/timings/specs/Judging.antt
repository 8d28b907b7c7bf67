-- What is asked of a message's octets alone, in the receiver's order.
use Rattle.std.specs.Prelude.{ℕ, cond, List, Ok, Err, Result}
use Rattle.answers.specs.declared.refusal.Refusal.{Refusal}
use Rattle.answers.specs.declared.refusal.Refusal.TheVariants as refusal
use Rattle.answers.specs.Refusals.{number_of}
use Rattle.sha256.specs.Sha256.{sha256_of}
use Rattle.message.specs.declared.types.View.{View}
use Rattle.message.specs.Checks.{profile_matches, echo_matches, signature_length_fits, transcript_of}
use Rattle.message.specs.Sizes.{sizes_fit}

-- the transcript of what was read, or the refusal of the first question that does not hold
abbrev pub asked : List ℕ → View → Result (List ℕ) Refusal
asked os v =
    cond (profile_matches v)
    (cond (sizes_fit os v)
    (cond (echo_matches os v)
    (cond (signature_length_fits v)
    (Ok (transcript_of os v))
    (Err refusal.SignatureLength))
    (Err refusal.ContextMismatch))
    (Err refusal.SizeLimit))
    (Err refusal.ProfileMismatch)

-- the same of octets, of which this was read
abbrev pub judging : List ℕ → Result View Refusal → Result (List ℕ) Refusal
judging os (Err e) = Err e
judging os (Ok v) = asked os v

-- the transcript's digest
abbrev pub hashed : Result (List ℕ) Refusal → Result (List ℕ) Refusal
hashed (Err e) = Err e
hashed (Ok t) = Ok (sha256_of t)

-- 0, or the refusal's number
abbrev pub number_as : Result (List ℕ) Refusal → ℕ
number_as (Err e) = number_of e
number_as (Ok t) = 0

-- the transcript's digest, or else what stood there
abbrev pub digest_or : List ℕ → Result (List ℕ) Refusal → List ℕ
digest_or old (Err e) = old
digest_or old (Ok t) = sha256_of t
