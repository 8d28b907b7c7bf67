-- A buffer that is filled bit by bit.
use Rattle.std.specs.Prelude.{ℕ, Bool, List, ◌++◌, take}
use Rattle.line.specs.Bits.{low, bits_of}

-- the bits of the first octets of a buffer and of a part of an octet that follows them
unfoldable pub held : ℕ → ℕ → ℕ → List ℕ → List Bool
held octets fill part out = bits_of (take octets out) ++ low fill part
