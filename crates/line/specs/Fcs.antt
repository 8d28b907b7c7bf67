-- The frame check sequence.
use Rattle.std.specs.Prelude.{ℕ, zero, suc, ◌-◌, ◌/◌, ◌%◌, cond, List, [], ◌∷◌, fold, ◌==◌, bit_xor}

-- one right shift, XOR 0x8408 when a 1 falls out
unfoldable pub shift : ℕ → ℕ
shift r = cond (r % 2 == 1) (bit_xor (r / 2) 0x8408) (r / 2)

-- n shifts
unfoldable pub shifts : ℕ → ℕ → ℕ
shifts zero r = r
shifts (suc n) r = shift (shifts n r)

-- the register after one more octet: XOR, then eight shifts
unfoldable pub step : ℕ → ℕ → ℕ
step r octet = shifts 8 (bit_xor r octet)

-- the register after all octets, from 0xFFFF
unfoldable pub register : List ℕ → ℕ
register octets = fold step 0xFFFF octets

-- what is sent: the register's complement
abbrev pub fcs_of : List ℕ → ℕ
fcs_of octets = 0xFFFF - register octets

-- the two octets behind a message, low octet first
unfoldable pub tail : List ℕ → List ℕ
tail m = fcs_of m % 256 ∷ fcs_of m / 256 ∷ []

-- the register over a message and its FCS
abbrev pub residue : ℕ
residue = 0xF0B8
