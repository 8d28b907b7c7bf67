-- What the way through a body comes to.
use Rattle.std.specs.Prelude.{◌≡◌, ℕ, ◌+◌, ◌%◌, ◌<◌, ◌≤◌, Bool, true, false, cond, List, length, take, Some, None, Ok, Err, Option, Result, ◌==◌, ◌≢◌}
use Rattle.answers.specs.declared.refusal.Refusal.{Refusal}
use Rattle.answers.specs.declared.refusal.Refusal.TheVariants.{BurstTooLong, Framing, OctetAlign}
use Rattle.line.specs.declared.heard.Hearing.TheVariants.{Frame}
use Rattle.line.specs.declared.scan.Body.{Body}
use Rattle.line.specs.declared.scan.Flaw.{Flaw}
use Rattle.line.specs.Bits.{octets_in}
use Rattle.line.specs.Flags.{closing, between}
use Rattle.line.specs.Hearing.{Outcome, in_time, longest_body, refused_at, quiet_at}
use Rattle.line.specs.Stuffing.{unstuffed}

-- a body that starts at b has bits and is not too long
pub record Begun (bits : List Bool) (b : ℕ) : Type 0 where
  pub some : b < length bits
  pub timely : in_time bits b ≡ true

-- it closes at c
pub record Closed (bits : List Bool) (b c : ℕ) : Type 0 where
  pub some : b < length bits
  pub timely : in_time bits b ≡ true
  pub closes : closing bits b ≡ Some c

-- and is the stuffed form of these bits
pub record Right (bits : List Bool) (b c : ℕ) (kept : List Bool) : Type 0 where
  pub closed : Closed bits b c
  pub unstuffs : unstuffed (between b c bits) ≡ Some kept

-- which are n octets, at the front of the buffer
pub record Packed (kept : List Bool) (n : ℕ) (buffer : List ℕ) : Type 0 where
  pub whole : length kept % 8 ≡ 0
  pub fits : n ≤ length buffer
  pub octets : octets_in kept ≡ take n buffer

abbrev pub flaw : Refusal → ℕ → Flaw
flaw refusal next = record { refusal = refusal; next = next }

-- why a body that starts at b is refused, and where to listen next
pub data Flawed (bits : List Bool) (b : ℕ) (f : Flaw) : Type 0 where
  TooLong : f ≡ flaw BurstTooLong (b + longest_body) → b < length bits → in_time bits b ≡ false → Flawed bits b f
  Unclosed : f ≡ flaw Framing (length bits) → Begun bits b → closing bits b ≡ None → Flawed bits b f
  Broken : (c : ℕ) → f ≡ flaw Framing c → Closed bits b c → unstuffed (between b c bits) ≡ None → Flawed bits b f
  Misaligned : (c : ℕ) (kept : List Bool) → f ≡ flaw OctetAlign c → Right bits b c kept → length kept % 8 ≢ 0 → Flawed bits b f

-- what a body that starts at b is found to be: right, with no bits, or flawed
abbrev pub Found : List Bool → ℕ → List ℕ → Result (Option Body) Flaw → Type 0
Found bits b buffer (Ok (Some body)) = (kept : List Bool) × Right bits b body.place kept × Packed kept body.octets buffer
Found bits b buffer (Ok None) = length bits ≤ b
Found bits b buffer (Err f) = Flawed bits b f

-- what a closed body is, by whether it is broken and how far the octets are filled: six bits of the closing flag came in behind it
abbrev pub closed_as : Bool → ℕ → ℕ → ℕ → Result Body Flaw
closed_as broken fill octets c = cond broken (Err (flaw Framing c)) (cond (fill == 6) (Ok (record { octets = octets; place = c })) (Err (flaw OctetAlign c)))

-- what is heard, told by a frame's body, by none, or by a flaw
abbrev pub Reached : Outcome → ℕ → List ℕ → Result (Option Body) Flaw → Type 0
Reached o count buffer (Ok (Some body)) =
    (body.octets ≤ length buffer) × (o ≡ record { answer = record { hearing = Frame body.octets; next = body.place }; octets = take body.octets buffer })
Reached o count buffer (Ok None) = o ≡ quiet_at count
Reached o count buffer (Err f) = o ≡ refused_at f.refusal f.next
