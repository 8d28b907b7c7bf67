-- The arguments in the tree of a map.
use Rattle.std.specs.Prelude.{ℕ, Bool, true, false, ◌&&◌, List, ℤ, pos, negsuc, Some, None, Option, Result, nat_lt}
use Rattle.answers.specs.declared.refusal.Refusal.{Refusal}
use Rattle.items.specs.Trees.{Item, unsigned, negative, bytes, text, array, map, simple_false, simple_true, simple_null, Entries, no_entries, next_entry, value_of}
use Rattle.commands.specs.Arguments.{Source}
use Rattle.commands.specs.Orders.{Order, order_in}

-- an item as an unsigned number
abbrev pub unsigned_of : Item → Option ℕ
unsigned_of (unsigned n) = Some n
unsigned_of (negative n) = None
unsigned_of (bytes bs) = None
unsigned_of (text bs) = None
unsigned_of (array ts) = None
unsigned_of (map es) = None
unsigned_of simple_false = None
unsigned_of simple_true = None
unsigned_of simple_null = None

-- as an integer of either sign
abbrev pub integer_of : Item → Option ℤ
integer_of (unsigned n) = Some (pos n)
integer_of (negative n) = Some (negsuc n)
integer_of (bytes bs) = None
integer_of (text bs) = None
integer_of (array ts) = None
integer_of (map es) = None
integer_of simple_false = None
integer_of simple_true = None
integer_of simple_null = None

-- a track: its number, or a byte string
pub data Track : Type 0 where
  number : ℕ → Track
  octets : List ℕ → Track

-- as a track: unsigned or a byte string
abbrev pub track_of : Item → Option Track
track_of (unsigned n) = Some (number n)
track_of (negative n) = None
track_of (bytes bs) = Some (octets bs)
track_of (text bs) = None
track_of (array ts) = None
track_of (map es) = None
track_of simple_false = None
track_of simple_true = None
track_of simple_null = None

-- as a text string
abbrev pub text_of : Item → Option (List ℕ)
text_of (unsigned n) = None
text_of (negative n) = None
text_of (bytes bs) = None
text_of (text bs) = Some bs
text_of (array ts) = None
text_of (map es) = None
text_of simple_false = None
text_of simple_true = None
text_of simple_null = None

-- a key below n: an unsigned number that is
abbrev pub key_below : Option ℕ → ℕ → Bool
key_below None n = false
key_below (Some k) n = nat_lt k n

-- every key of the map is one of the first n
abbrev pub keys_below : ℕ → Entries → Bool
keys_below n no_entries = true
keys_below n (next_entry k v es) = key_below (unsigned_of k) n && keys_below n es

-- the arguments in a map
abbrev pub arguments_of : Entries → Source Item Track (List ℕ)
arguments_of es = record {
  value = λ key. Some (value_of es key);
  unsigned = unsigned_of;
  integer = integer_of;
  track = track_of;
  text = text_of;
  only = λ n m. keys_below n es;
}

-- what a command type and a map order, strings by their octets
abbrev pub order_of : ℕ → Entries → Result (Order Track (List ℕ)) Refusal
order_of kind es = order_in (arguments_of es) kind
