-- What is heard of a burst: the questions from the work buffer to the FCS, in their order.
use Rattle.std.specs.Prelude.{◌≡◌, ℕ, ◌+◌, ◌-◌, ◌*◌, ◌%◌, ◌≤◌, Bool, false, cond, ◌&&◌, ◌||◌, List, [], ◌++◌, length, take, replicate, Some, None, Ok, Err, Option, Result, ◌==◌, nat_le}
use Rattle.answers.specs.Questions.{Questions, otherwise, ◌⨟◌, ask, found, first}
use Rattle.answers.specs.declared.refusal.Refusal.{Refusal}
use Rattle.answers.specs.declared.refusal.Refusal.TheVariants.{WorkTooShort, OutOfBounds, BurstTooLong, Framing, OctetAlign, FcsFail}
use Rattle.line.specs.declared.heard.Hearing.TheVariants.{Quiet, Refused, Frame}
use Rattle.line.specs.declared.heard.Heard.{Heard}
use Rattle.line.specs.Bits.{bits_in, octets_in}
use Rattle.line.specs.Fcs.{register, residue}
use Rattle.line.specs.Flags.{body_start, closing, between}
use Rattle.line.specs.Stuffing.{unstuffed}

-- the longest body, in bits, and the work buffer that it needs, in octets
abbrev pub longest_body : ℕ
longest_body = 132000

abbrev pub work_octets : ℕ
work_octets = 16500

-- a closing flag starts by b and the longest body
abbrev pub closes_by : ℕ → Option ℕ → Bool
closes_by b None = false
closes_by b (Some c) = nat_le c (b + longest_body)

-- the burst is not too long from b: it closes in time, or it ends before a longer body could be told
abbrev pub in_time : List Bool → ℕ → Bool
in_time bits b = closes_by b (closing bits b) || nat_le (length bits) (b + (longest_body + 8))

-- two octets or more, and the register over all of them is the one that an FCS leaves
abbrev pub checked : List ℕ → Bool
checked octets = nat_le 2 (length octets) && register octets == residue

-- the questions from the opening flag to the FCS; `rest` is what is asked of a frame, by its closing flag's place and its octets
abbrev pub line_questions : {A : Type 0} → (Refusal → ℕ → A) → (ℕ → A) → List Bool → ℕ → (ℕ → List ℕ → Questions A) → Questions A
line_questions refused quiet bits start rest =
    found (body_start bits start) (quiet (length bits)) (λ b.
    ask (in_time bits b) (refused BurstTooLong (b + longest_body)) ⨟
    found (closing bits b) (refused Framing (length bits)) (λ c.
    found (unstuffed (between b c bits)) (refused Framing c) (λ kept.
    ask (length kept % 8 == 0) (refused OctetAlign c) ⨟
    ask (checked (octets_in kept)) (refused FcsFail c) ⨟
    rest c (octets_in kept))))

-- start and count lie in the burst
abbrev pub in_bounds : ℕ → ℕ → ℕ → Bool
in_bounds octets count start = nat_le start count && nat_le count (8 * octets)

-- the answer of the first two questions, about the buffers
abbrev pub admission : ℕ → ℕ → ℕ → ℕ → Result (Unit {0}) Refusal
admission octets count start work = cond (nat_le work_octets work) (cond (in_bounds octets count start) (Ok tt) (Err OutOfBounds)) (Err WorkTooShort)

-- an answer, and the octets that it leaves at the front of the work buffer
pub record Outcome : Type 0 where
  pub answer : Heard
  pub octets : List ℕ

abbrev pub refused_at : Refusal → ℕ → Outcome
refused_at r next = record { answer = record { hearing = Refused r; next = next }; octets = [] }

abbrev pub quiet_at : ℕ → Outcome
quiet_at next = record { answer = record { hearing = Quiet; next = next }; octets = [] }

abbrev pub frame_at : ℕ → List ℕ → Questions Outcome
frame_at c octets = otherwise (record { answer = record { hearing = Frame (length octets); next = c }; octets = octets })

-- what is heard of the decoded bits alone
unfoldable pub hears_line : List Bool → ℕ → Outcome
hears_line bits start = first (line_questions refused_at quiet_at bits start frame_at)

-- the questions about the buffers, and then about the line
abbrev pub hear_questions : List ℕ → ℕ → ℕ → ℕ → Questions Outcome
hear_questions burst count start work =
    ask (nat_le work_octets work) (refused_at WorkTooShort start) ⨟
    ask (in_bounds (length burst) count start) (refused_at OutOfBounds start) ⨟
    line_questions refused_at quiet_at (bits_in burst count) start frame_at

-- what is heard: the answer of the first question that does not hold, or the frame
unfoldable pub hears : List ℕ → ℕ → ℕ → ℕ → Outcome
hears burst count start work = first (hear_questions burst count start work)

-- a buffer that begins with these octets
pub record Fronts (octets buffer : List ℕ) : Type 0 where
  pub fits : length octets ≤ length buffer
  pub same : take (length octets) buffer ≡ octets

-- a work buffer of n octets with these at its front, and zeros behind them
abbrev pub laid : ℕ → List ℕ → List ℕ
laid n octets = octets ++ replicate (n - length octets) 0
