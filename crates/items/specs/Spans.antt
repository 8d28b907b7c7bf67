-- What a span shows of octets.
use Rattle.std.specs.Prelude.{ℕ, ◌+◌, cond, List, length, Some, None, Option, nat_le}
use Rattle.items.specs.declared.types.Span.{Span}
use Rattle.items.specs.Heads.{part}

-- the octets of the span, if the whole of it lies within
unfoldable pub shown : List ℕ → Span → Option (List ℕ)
shown os s = cond (nat_le (s.start + s.len) (length os)) (Some (part os s.start s.len)) None
