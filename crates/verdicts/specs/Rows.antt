-- Sheets of rows of equal length.
use Rattle.std.specs.Prelude.{ℕ, ◌/◌, List, length, take, drop}
use Rattle.std.specs.Simd.{first_chunks}

-- the whole rows of n octets; octets behind the last whole one are no row
abbrev pub rows_of : ℕ → List ℕ → List (List ℕ)
rows_of n octets = first_chunks n (length octets / n) octets

-- n octets of a row, from place p on
abbrev pub field : ℕ → ℕ → List ℕ → List ℕ
field p n row = take n (drop p row)
