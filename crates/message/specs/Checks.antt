-- What is asked of a message that was read.
use Rattle.std.specs.Prelude.{ℕ, ◌+◌, ◌-◌, Bool, true, false, cond, List, ◌∷◌, ◌++◌, take, drop, Some, None, Option, ◌==◌, nat_le, slice_index}
use Rattle.std.specs.Str.{bytes_eq}
use Rattle.items.specs.declared.types.Span.{Span}
use Rattle.items.specs.Heads.{part}
use Rattle.message.specs.declared.types.Meta.{Meta}
use Rattle.message.specs.declared.types.View.{View}
use Rattle.message.specs.Sizes.{behind_signature}

-- what a span holds
abbrev pub held : List ℕ → Span → List ℕ
held os s = part os s.start s.len

-- the profile is 1
abbrev pub profile_matches : View → Bool
profile_matches v = v.profile == 1

-- a context is there, with these octets
abbrev pub is_context : List ℕ → List ℕ → Option Span → Bool
is_context os echo None = false
is_context os echo (Some s) = bytes_eq echo (held os s)

-- an echo is absent, or equal to a context that is there
abbrev pub echoed : List ℕ → Option Span → Option Span → Bool
echoed os None ctx = true
echoed os (Some e) ctx = is_context os (held os e) ctx

-- the echo of the metadata, if there are any and they have one
abbrev pub echo_of : Option Meta → Option Span
echo_of None = None
echo_of (Some m) = m.echo

-- the echo is absent or equal to the context
abbrev pub echo_matches : List ℕ → View → Bool
echo_matches os v = echoed os (echo_of v.meta) v.auth.ctx

-- the octets of a signature by its alg, which is 1 to 3
abbrev pub signature_length : ℕ → ℕ
signature_length alg = cond (alg == 1) 3309 (cond (alg == 2) 7856 16)

-- the signature has the length of its alg
abbrev pub signature_length_fits : View → Bool
signature_length_fits v = v.auth.signature.len == signature_length v.auth.alg

-- the signature's octets
abbrev pub signature_of : List ℕ → View → List ℕ
signature_of os v = held os v.auth.signature

-- what is signed: the octets without the signature's entry, the head of auth one lower
unfoldable pub transcript_of : List ℕ → View → List ℕ
transcript_of os v =
    take v.auth.place os
    ++ ((slice_index os v.auth.place - 1)
    ∷ (take (v.auth.entry - v.auth.place - 1) (drop 1 (drop v.auth.place os))
    ++ behind_signature os v))

-- the clock is at most 30 seconds above exp, or there is none
abbrev pub not_expired : ℕ → Option ℕ → Bool
not_expired clock None = true
not_expired clock (Some exp) = nat_le clock (exp + 30)

-- exp is at most a day above the clock, or there is none
abbrev pub not_too_far : ℕ → Option ℕ → Bool
not_too_far clock None = true
not_too_far clock (Some exp) = nat_le exp (clock + 86400)
