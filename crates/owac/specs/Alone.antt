-- What is asked of a message by itself, without a verifier and without a store.
use Rattle.std.specs.Prelude.{ℕ, List, Some, None, Option}
use Rattle.answers.specs.declared.refusal.Refusal.{Refusal}
use Rattle.answers.specs.declared.refusal.Refusal.TheVariants.{ProfileMismatch, SizeLimit, ContextMismatch, SignatureLength, Expired, ExpTooFar}
use Rattle.answers.specs.Questions.{Questions, otherwise, ◌⨟◌, ask}
use Rattle.message.specs.declared.types.View.{View}
use Rattle.message.specs.Sizes.{sizes_fit}
use Rattle.message.specs.Checks.{profile_matches, echo_matches, signature_length_fits, not_expired, not_too_far}

-- the questions on its fields and its time, up to the command
abbrev pub fields_alone : ℕ → List ℕ → View → Questions (Option Refusal)
fields_alone clock os v =
    ask (profile_matches v) (Some ProfileMismatch) ⨟
    ask (sizes_fit os v) (Some SizeLimit) ⨟
    ask (echo_matches os v) (Some ContextMismatch) ⨟
    ask (signature_length_fits v) (Some SignatureLength) ⨟
    ask (not_expired clock v.mid.exp) (Some Expired) ⨟
    ask (not_too_far clock v.mid.exp) (Some ExpTooFar) ⨟
    otherwise None
