-- What the definition comes to for messages below 2 ^ 64 bits, of which FIPS 180-4 speaks.
use Rattle.std.specs.Prelude.{◌≡◌, ℕ, ◌+◌, ◌*◌, ◌%◌, ◌^◌, ◌<◌, List, length, fold}
use Rattle.sha256.specs.Sha256.{octets_of64, padded}

-- below 2 ^ 61 octets the length field, read highest octet first, is the whole length in bits
abbrev pub LengthExact : Type 0
LengthExact = (m : List ℕ) → length m < 2 ^ 61 → fold (λ n o. n * 256 + o) 0 (octets_of64 (8 * length m)) ≡ 8 * length m

-- the padded message is whole blocks
abbrev pub WholeBlocks : Type 0
WholeBlocks = (m : List ℕ) → length (padded m) % 64 ≡ 0
