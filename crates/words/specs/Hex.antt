-- Octets as hexadecimal words.
use Rattle.std.specs.Prelude.{◌≡◌, ℕ, ◌+◌, ◌-◌, ◌*◌, ◌/◌, ◌%◌, ◌<◌, Bool, cond, ◌&&◌, ◌⊎◌, List, [], ◌∷◌, length, Some, None, Option, nat_le, nat_lt, slice_index}
use Rattle.std.specs.List.{flat_map}

-- c lies from a to b
abbrev pub between : ℕ → ℕ → ℕ → Bool
between a b c = nat_le a c && nat_le c b

-- the value of a digit, in either case
abbrev pub value_of : ℕ → Option ℕ
value_of c = cond (between 48 57 c) (Some (c - 48)) (cond (between 65 70 c) (Some (c - 55)) (cond (between 97 102 c) (Some (c - 87)) None))

-- the digit of a value below 16
abbrev pub digit_of : ℕ → ℕ
digit_of v = cond (nat_lt v 10) (48 + v) (55 + v)

-- two values as one octet
abbrev pub octet_from : Option ℕ → Option ℕ → Option ℕ
octet_from None l = None
octet_from (Some h) None = None
octet_from (Some h) (Some l) = Some (16 * h + l)

-- the octet of a high and a low digit
abbrev pub octet_of : ℕ → ℕ → Option ℕ
octet_of high low = octet_from (value_of high) (value_of low)

-- the two digits of an octet
abbrev pub hex_of : ℕ → List ℕ
hex_of octet = digit_of (octet / 16) ∷ digit_of (octet % 16) ∷ []

-- the digits of octets
abbrev pub hex_text : List ℕ → List ℕ
hex_text os = flat_map hex_of os

-- the word for no octets
abbrev pub dash : List ℕ
dash = 45 ∷ []

-- the word for octets
abbrev pub word_of : List ℕ → List ℕ
word_of [] = dash
word_of (o ∷ os) = hex_text (o ∷ os)

-- the first n octets are those of the word's first n pairs of digits
abbrev pub SpeltTo : List ℕ → List ℕ → ℕ → Type 0
SpeltTo word os n = (k : ℕ) → k < n → octet_of (slice_index word (2 * k)) (slice_index word (2 * k + 1)) ≡ Some (slice_index os k)

-- a word is octets' digits and nothing more
pub record Spells (word os : List ℕ) : Type 0 where
  pub long : length word ≡ 2 * length os
  pub digits : SpeltTo word os (length os)

-- a word names octets: a dash names none, digits spell them
abbrev pub Names : List ℕ → List ℕ → Type 0
Names word os = ((word ≡ dash) × (os ≡ [])) ⊎ Spells word os

-- all are octets
abbrev pub Octets : List ℕ → Type 0
Octets os = (k : ℕ) → slice_index os k < 256

-- the word for octets names them
abbrev pub HexBack : Type 0
HexBack = (os : List ℕ) → Octets os → Names (word_of os) os

-- the digits of an octet are read as that octet
abbrev pub OctetBack : Type 0
OctetBack = (o : ℕ) → o < 256 → octet_of (digit_of (o / 16)) (digit_of (o % 16)) ≡ Some o
