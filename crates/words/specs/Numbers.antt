-- Numbers as decimal words.
use Rattle.std.specs.Prelude.{◌≡◌, ℕ, ◌^◌, ◌<◌, List, Some, decimal, Option}
use Rattle.std.specs.Option.{SomeIff}
use Rattle.std.specs.Str.Parse.{IsNumeral, digits_value}

-- a word of digits alone is read as what it writes, if that has 64 bits; no other word is read
abbrev pub Reads : List ℕ → Option ℕ → Type 0
Reads word r = SomeIff r (IsNumeral 10 word × (digits_value 10 word < 2 ^ 64)) (digits_value 10 word)

-- what is printed of a number is read as that number
abbrev pub ReadsBack : List ℕ → Option ℕ → Type 0
ReadsBack word r = (n : ℕ) → n < 2 ^ 64 → word ≡ decimal n → r ≡ Some n
