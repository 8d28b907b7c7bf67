-- One field at a place, read forward: what it is, and the place behind it. Only shortest heads are taken.
use Rattle.std.specs.Prelude.{ℕ, ◌+◌, ◌-◌, ◌^◌, cond, ◌&&◌, List, length, ℤ, pos, negsuc, Some, None, Ok, Err, Option, Result, ◌==◌, nat_le, nat_lt}
use Rattle.text.specs.Table.{is_text}
use Rattle.items.specs.declared.types.Fault.{Fault}
use Rattle.items.specs.declared.types.Span.{Span}
use Rattle.items.specs.Heads.{Head, head_at, head_size, part}
use Rattle.items.specs.Reading.{Walk, item_of, containers, start_at}

-- go on behind what was read
abbrev pub bind : {V W : Type 0} → Option V → (V → Option W) → Option W
bind None f = None
bind (Some x) f = f x

-- a head of major type m in its shortest form: its argument, and the place q behind it
abbrev pub picked : ℕ → ℕ → Result Head Fault → Option (ℕ × ℕ)
picked m q (Err e) = None
picked m q (Ok h) = cond (h.major == m && h.shortest) (Some (h.argument, q)) None

-- the head at p, of major type m
unfoldable pub argument_at : ℕ → List ℕ → ℕ → Option (ℕ × ℕ)
argument_at m os p = picked m (p + head_size os p) (head_at os p)

-- an unsigned number
abbrev pub unsigned_at : List ℕ → ℕ → Option (ℕ × ℕ)
unsigned_at = argument_at 0

-- a negative number, -1 - n given as n
abbrev pub negative_at : List ℕ → ℕ → Option (ℕ × ℕ)
negative_at = argument_at 1

-- the integer f n, if n has 63 bits
abbrev pub signed : (ℕ → ℤ) → ℕ × ℕ → Option (ℤ × ℕ)
signed f x = cond (nat_lt x.0 (2 ^ 63)) (Some (f x.0, x.1)) None

-- an integer by the unsigned number that was read, if one was, and else by the negative one
abbrev pub either_sign : Option (ℕ × ℕ) → Option (ℕ × ℕ) → Option (ℤ × ℕ)
either_sign (Some x) y = signed pos x
either_sign None y = bind y (signed negsuc)

-- an integer from -2^63 to 2^63 - 1
unfoldable pub integer_at : List ℕ → ℕ → Option (ℤ × ℕ)
integer_at os p = either_sign (unsigned_at os p) (negative_at os p)

-- the head of a map: how many entries it has, and where they start
abbrev pub map_head_at : List ℕ → ℕ → Option (ℕ × ℕ)
map_head_at = argument_at 5

-- the key n
unfoldable pub key_at : ℕ → List ℕ → ℕ → Option ℕ
key_at n os p = bind (argument_at 0 os p) (λ x. cond (x.0 == n) (Some x.1) None)

-- what a string holds
unfoldable pub string_at : ℕ → List ℕ → ℕ → Option (Span × ℕ)
string_at m os p = bind (argument_at m os p) (λ x. cond (nat_le (x.1 + x.0) (length os)) (Some (record { start = x.1; len = x.0 }, x.1 + x.0)) None)

-- a byte string
abbrev pub bytes_at : List ℕ → ℕ → Option (Span × ℕ)
bytes_at = string_at 2

-- a text string, in UTF-8
unfoldable pub text_at : List ℕ → ℕ → Option (Span × ℕ)
text_at os p = bind (string_at 3 os p) (λ x. cond (is_text (part os x.0.start x.0.len)) (Some x) None)

-- where an item that was read from p on ends, if it was deterministic
abbrev pub closed : ℕ → Result Walk Fault → Option (Span × ℕ)
closed p (Err e) = None
closed p (Ok w) = cond w.deterministic (Some (record { start = p; len = w.place - p }, w.place)) None

-- a map of anything, within the limits of a message: its octets, head and all
unfoldable pub map_at : List ℕ → ℕ → Option (Span × ℕ)
map_at os p = bind (argument_at 5 os p) (λ _. closed p (item_of containers os (start_at p)))
