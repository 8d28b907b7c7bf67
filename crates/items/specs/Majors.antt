-- The number of each major type.
use Rattle.std.specs.Prelude.{ℕ}
use Rattle.items.specs.declared.types.Major.{Major}
use Rattle.items.specs.declared.types.Major.TheVariants.{Unsigned, Negative, Bytes, Text, Array, Map, Tag, Simple}

-- the number that the first three bits of a head of this major type write
abbrev pub number_of : Major → ℕ
number_of Unsigned = 0
number_of Negative = 1
number_of Bytes = 2
number_of Text = 3
number_of Array = 4
number_of Map = 5
number_of Tag = 6
number_of Simple = 7
