-- A message as a burst of tones.
use Rattle.std.specs.Prelude.{◌≡◌, ℕ, zero, suc, ◌+◌, ◌-◌, ◌*◌, ◌/◌, Bool, true, cond, List, [], ◌∷◌, ◌++◌, length, take, drop, replicate, Ok, Err, Result, nat_le}
use Rattle.std.specs.Bool.{beq}
use Rattle.answers.specs.declared.refusal.Refusal.{Refusal}
use Rattle.answers.specs.declared.refusal.Refusal.TheVariants.{MessageTooLong, OutputTooShort}
use Rattle.line.specs.Bits.{bits_of}
use Rattle.line.specs.Fcs.{tail}
use Rattle.line.specs.Flags.{flag}
use Rattle.line.specs.Stuffing.{stuffed}

-- n flags
unfoldable pub flags : ℕ → List Bool
flags zero = []
flags (suc n) = flags n ++ flag

-- the body of a message: its octets and its FCS, stuffed
unfoldable pub body_of : List ℕ → List Bool
body_of m = stuffed (bits_of (m ++ tail m))

-- a body between its flags: 33 in front, one behind
unfoldable pub flagged : List Bool → List Bool
flagged body = flags 33 ++ (body ++ flag)

-- the bits of a message on the line
abbrev pub frame : List ℕ → List Bool
frame m = flagged (body_of m)

-- bits as tones behind the tone `last`: a 1 repeats it, a 0 changes it
unfoldable pub tones : Bool → List Bool → List Bool
tones last [] = []
tones last (b ∷ bits) = beq last b ∷ tones (beq last b) bits

-- the last of these tones
unfoldable pub last_tone : Bool → List Bool → Bool
last_tone last [] = last
last_tone last (b ∷ bits) = last_tone (beq last b) bits

-- the octets that n tones take
abbrev pub octet_count : ℕ → ℕ
octet_count n = (n + 7) / 8

-- the tones that fill the last octet
abbrev pub filling : ℕ → ℕ
filling n = 8 * octet_count n - n

-- bits as tones from mark, with the last one repeated to the octet's end
unfoldable pub toned : List Bool → List Bool
toned bits = tones true bits ++ replicate (filling (length bits)) (last_tone true bits)

-- the tones of a message
abbrev pub burst : List ℕ → List Bool
burst m = toned (frame m)

-- the longest message, in octets
abbrev pub longest_message : ℕ
longest_message = 12288

-- what the writer answers: the number of tones, or the first refusal
abbrev pub writing : List ℕ → ℕ → Result ℕ Refusal
writing m room =
    cond (nat_le (length m) longest_message)
    (cond (nat_le (octet_count (length (frame m))) room) (Ok (length (frame m))) (Err OutputTooShort))
    (Err MessageTooLong)

-- the output holds the tones of these bits in front, and behind them what it held before
pub record Written (bits : List Bool) (old new : List ℕ) : Type 0 where
  pub tones : bits_of (take (octet_count (length bits)) new) ≡ toned bits
  pub behind : drop (octet_count (length bits)) new ≡ drop (octet_count (length bits)) old

-- what the output holds after the writer's answer
abbrev pub Output : List ℕ → List ℕ → List ℕ → Result ℕ Refusal → Type 0
Output m old new (Ok n) = Written (frame m) old new
Output m old new (Err e) = new ≡ old
