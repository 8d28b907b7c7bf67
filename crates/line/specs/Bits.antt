-- Octets as bits, lowest bit first, and tones as decoded bits.
use Rattle.std.specs.Prelude.{ℕ, zero, suc, ◌+◌, ◌*◌, ◌/◌, ◌%◌, ◌^◌, Bool, true, cond, List, [], ◌∷◌, ◌++◌, map, length, take, drop, ◌==◌, slice_index}
use Rattle.std.specs.Bool.{beq}
use Rattle.std.specs.List.{range_with_len}

-- the lowest bit of x
abbrev pub odd : ℕ → Bool
odd x = x % 2 == 1

-- the n lowest bits of x
unfoldable pub low : ℕ → ℕ → List Bool
low zero x = []
low (suc n) x = odd x ∷ low n (x / 2)

-- the bits of octets
unfoldable pub bits_of : List ℕ → List Bool
bits_of [] = []
bits_of (o ∷ os) = low 8 o ++ bits_of os

-- the number that bits write
unfoldable pub number : List Bool → ℕ
number [] = 0
number (b ∷ bits) = cond b 1 0 + 2 * number bits

-- the first n octets that bits write
unfoldable pub octets_of : ℕ → List Bool → List ℕ
octets_of zero bits = []
octets_of (suc n) bits = number (take 8 bits) ∷ octets_of n (drop 8 bits)

-- the whole octets that bits write
unfoldable pub octets_in : List Bool → List ℕ
octets_in bits = octets_of (length bits / 8) bits

-- tone k of a burst: 1 is mark, 0 is space
unfoldable pub tone : List ℕ → ℕ → Bool
tone octets k = odd (slice_index octets (k / 8) / 2 ^ (k % 8))

-- the tone in front of tone k: mark in front of the first
unfoldable pub tone_before : List ℕ → ℕ → Bool
tone_before octets zero = true
tone_before octets (suc k) = tone octets k

-- decoded bit k: 1 when tone k equals the tone in front of it
unfoldable pub decoded : List ℕ → ℕ → Bool
decoded octets k = beq (tone octets k) (tone_before octets k)

-- n decoded bits from place k on
abbrev pub heard : List ℕ → ℕ → ℕ → List Bool
heard octets k n = map (decoded octets) (range_with_len k n)

-- all decoded bits of a burst of so many tones
abbrev pub bits_in : List ℕ → ℕ → List Bool
bits_in octets count = heard octets 0 count
