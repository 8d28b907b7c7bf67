-- The table of octet sequences and the encoding of characters say the same.
use Rattle.std.specs.Prelude.{ℕ, List, IsUtf8, Decides}
use Rattle.text.specs.Table.{is_text}

-- octets are text by the table exactly when they are the UTF-8 encoding of some Unicode scalar values
abbrev pub TextIsUtf8 : Type 0
TextIsUtf8 = (octets : List ℕ) → Decides (is_text octets) (IsUtf8 octets)
