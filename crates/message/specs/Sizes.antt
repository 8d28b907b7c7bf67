-- The sizes of a message, by its octets: they are met head by head, from the left.
use Rattle.std.specs.Prelude.{ℕ, zero, suc, ◌+◌, ◌/◌, Bool, true, false, cond, ◌&&◌, List, length, take, drop, Some, None, Option, ◌==◌, nat_le, nat_lt, slice_index}
use Rattle.items.specs.declared.types.Span.{Span}
use Rattle.items.specs.Heads.{head_size}
use Rattle.items.specs.Reading.{message_items}
use Rattle.items.specs.Fields.{bind, bytes_at, text_at}
use Rattle.message.specs.declared.types.Meta.{Meta}
use Rattle.message.specs.declared.types.View.{View}

-- the most octets of a message by its alg
abbrev pub message_most : ℕ → ℕ
message_most alg = cond (alg == 2) 12288 4096

-- the most octets of the arguments, encoded
abbrev pub args_most : ℕ
args_most = 1024

-- the most octets of the metadata, encoded
abbrev pub meta_most : ℕ
meta_most = 512

-- the most octets that a text holds
abbrev pub text_most : ℕ
text_most = 256

-- the most octets that a byte string holds
abbrev pub bytes_most : ℕ
bytes_most = 2048

-- the place behind a string of at most n octets
abbrev pub up_to : ℕ → Option (Span × ℕ) → Option ℕ
up_to n r = bind r (λ x. cond (nat_le x.0.len n) (Some x.1) None)

-- where the head behind the one at p stands, if that one is no string that is too long
unfoldable pub next_head : List ℕ → ℕ → Option ℕ
next_head os p =
    cond (slice_index os p / 32 == 2) (up_to bytes_most (bytes_at os p))
    (cond (slice_index os p / 32 == 3) (up_to text_most (text_at os p))
    (cond (nat_le (p + head_size os p) (length os)) (Some (p + head_size os p)) None))

-- go on at the next head
abbrev pub onward : Option ℕ → (ℕ → Bool) → Bool
onward None f = false
onward (Some p) f = f p

-- of the next n heads from p on, none is that of a string too long
unfoldable pub strings_fit : ℕ → List ℕ → ℕ → Bool
strings_fit zero os p = true
strings_fit (suc n) os p = cond (nat_lt p (length os)) (onward (next_head os p) (strings_fit n os)) true

-- the metadata are small enough, or absent
abbrev pub meta_fits : Option Meta → Bool
meta_fits None = true
meta_fits (Some m) = nat_le m.span.len meta_most

-- the octets before the signature's entry
abbrev pub before_signature : List ℕ → View → List ℕ
before_signature os v = take v.auth.entry os

-- the octets behind the signature, and so behind its entry
abbrev pub behind_signature : List ℕ → View → List ℕ
behind_signature os v = drop v.auth.signature.len (drop v.auth.signature.start os)

-- message, arguments and metadata are small enough, and all strings but the signature
unfoldable pub sizes_fit : List ℕ → View → Bool
sizes_fit os v =
    nat_le (length os) (message_most v.auth.alg)
    && nat_le v.cmd.args.len args_most
    && meta_fits v.meta
    && strings_fit message_items (before_signature os v) 0
    && strings_fit message_items (behind_signature os v) 0
