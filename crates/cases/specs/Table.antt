-- The worked cases: what each says, and the table.
use Rattle.std.specs.Prelude.{◌≡◌, ℕ, ◌*◌, Bool, true, false, List, [], ◌∷◌, map, length, replicate, Some, None, Ok, Err, codes, Option, Result, slice_set}
use Rattle.std.specs.List.{AllByRecursion}
use Rattle.answers.specs.declared.refusal.Refusal.TheVariants.{Framing, FcsFail, CborParse}
use Rattle.answers.specs.Questions.{first}
use Rattle.items.specs.Reading.{read_of}
use Rattle.items.specs.declared.types.Reading.{Reading}
use Rattle.items.specs.declared.types.Fault.{Fault}
use Rattle.items.specs.declared.types.Fault.TheVariants.{Malformed, Indefinite}
use Rattle.message.specs.Checks.{not_expired, not_too_far}
use Rattle.journal.specs.Floors.{floored}
use Rattle.journal.specs.Journals.{chosen, mark_in}
use Rattle.marks.specs.Positions.{above}
use Rattle.marks.specs.declared.mark.Cell.{Cell}
use Rattle.marks.specs.declared.mark.Cell.TheVariants.{Blank, Torn, Held}
use Rattle.marks.specs.declared.mark.Mark.{Mark}
use Rattle.marks.specs.declared.mark.Pair.{Pair}
use Rattle.marks.specs.declared.mark.Position.{Position}
use Rattle.line.specs.Bits.{bits_of}
use Rattle.line.specs.Fcs.{fcs_of}
use Rattle.line.specs.Stuffing.{stuffed}
use Rattle.line.specs.declared.heard.Hearing.{Hearing}
use Rattle.line.specs.declared.heard.Hearing.TheVariants as hearing
use Rattle.line.specs.Hearing.{hears, work_octets}
use Rattle.marks.specs.State.{State}
use Rattle.judging.specs.declared.answer.Verdict.{Verdict}
use Rattle.judging.specs.declared.answer.Verdict.TheVariants.{Quiet, Refused}
use Rattle.judging.specs.Inputs.{Conditions}
use Rattle.judging.specs.Questions.{questions}

pub data Case : Type 0 where
  -- the FCS of these octets
  fcs_case : List ℕ → ℕ → Case
  -- so many bits once these octets are stuffed
  stuffs_to : List ℕ → ℕ → Case
  -- these octets, all their bits a burst, heard from bit 0
  heard_case : List ℕ → Hearing → Case
  -- these octets, all their bits a burst, listened to from bit 0 with the store on
  answered : List ℕ → Verdict → Case
  -- these octets read as an item
  read_as : List ℕ → Result Reading Fault → Case
  -- with a mark at the first position, the second lies above it or not
  above_mark : Position → Position → Bool → Case
  -- of cells that hold one pair's marks at these positions or are blank, a raise begins with this one, and torn there leaves this mark
  written_to : List (Option Position) → ℕ → Position → Case
  -- a floor over a mark
  floor_over : ℕ → Position → Position → Case
  -- a clock and an exp: not expired or not; not too far or not
  expires : ℕ → ℕ → Bool → Case
  reaches : ℕ → ℕ → Bool → Case

-- a position, a mark there, the pair, and a cell with that mark or blank
abbrev pub at : ℕ → ℕ → Position
at epoch counter = record { epoch = epoch; counter = counter }

abbrev pub mark_at : Position → Mark
mark_at p = record { position = p; hash = replicate 32 0 }

abbrev pub pair : Pair
pair = record { sid = replicate 16 1; kid = replicate 16 2 }

abbrev pub cell : Option Position → Cell
cell None = Blank
cell (Some p) = Held (record { pair = pair; mark = mark_at p })

-- what a case says
abbrev pub Holds : Case → Type 0
Holds (fcs_case octets fcs) = fcs_of octets ≡ fcs
Holds (stuffs_to octets bits) = length (stuffed (bits_of octets)) ≡ bits
Holds (heard_case octets hearing) = (hears octets (8 * length octets) 0 work_octets).answer.hearing ≡ hearing
Holds (answered octets verdict) =
    (conditions : Conditions) (store : State) → store.on ≡ true
    → (first (questions (record { burst = octets; count = 8 * length octets; start = 0; work = work_octets; conditions = conditions }) store)).verdict ≡ verdict
Holds (read_as octets result) = read_of octets ≡ result
Holds (above_mark mark position is) = above (Some (mark_at mark)) position ≡ is
Holds (written_to cells place left) =
    (chosen (map cell cells) None ≡ Some place) × (mark_in (slice_set (map cell cells) place Torn) pair ≡ Some (mark_at left))
Holds (floor_over epoch below mark) = floored epoch (Some (mark_at below)) ≡ Some (mark_at mark)
Holds (expires clock exp current) = not_expired clock (Some exp) ≡ current
Holds (reaches clock exp near) = not_too_far clock (Some exp) ≡ near

abbrev pub table : List Case
table =
    fcs_case (codes "123456789") 0x906E
    ∷ fcs_case [] 0x0000
    ∷ stuffs_to (0xFF ∷ 0xFF ∷ []) 19
    ∷ stuffs_to (0x7E ∷ []) 9
    ∷ heard_case (0x80 ∷ []) hearing.Quiet
    ∷ heard_case (0x80 ∷ 0xAA ∷ 0x80 ∷ []) (hearing.Refused FcsFail)
    ∷ heard_case (0x80 ∷ 0xAA ∷ 0xAA ∷ 0x80 ∷ []) (hearing.Frame 2)
    ∷ heard_case (0x80 ∷ 0xFF ∷ 0xFF ∷ []) (hearing.Refused Framing)
    ∷ read_as (0x18 ∷ 0x18 ∷ []) (Ok (record { deterministic = true }))
    ∷ read_as (0x18 ∷ 0x17 ∷ []) (Ok (record { deterministic = false }))
    ∷ read_as (0xA2 ∷ 0x00 ∷ 0x00 ∷ 0x00 ∷ 0x00 ∷ []) (Err Malformed)
    ∷ read_as (0xA2 ∷ 0x01 ∷ 0x00 ∷ 0x00 ∷ 0x00 ∷ []) (Ok (record { deterministic = false }))
    ∷ read_as (0x9F ∷ 0xFF ∷ []) (Err Indefinite)
    ∷ expires 130 100 true
    ∷ expires 131 100 false
    ∷ reaches 0 86400 true
    ∷ reaches 0 86401 false
    ∷ above_mark (at 7 105) (at 7 106) true
    ∷ above_mark (at 7 105) (at 8 0) true
    ∷ above_mark (at 7 105) (at 7 104) false
    ∷ written_to (Some (at 7 1) ∷ Some (at 7 2) ∷ None ∷ []) 0 (at 7 2)
    ∷ floor_over 9 (at 7 105) (at 9 0)
    ∷ answered (0x80 ∷ []) Quiet
    ∷ answered (0x80 ∷ 0xAA ∷ 0x80 ∷ []) (Refused FcsFail)
    ∷ answered (0x80 ∷ 0xAA ∷ 0xAA ∷ 0x80 ∷ []) (Refused CborParse)
    ∷ answered (0x80 ∷ 0xFF ∷ 0xFF ∷ []) (Refused Framing)
    ∷ []

-- all of them
abbrev pub CasesHold : Type 0
CasesHold = AllByRecursion Holds table
