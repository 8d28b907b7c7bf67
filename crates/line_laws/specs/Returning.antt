-- What the writer sends is heard as the same message.
use Rattle.std.specs.Prelude.{◌≡◌, ℕ, ◌+◌, ◌-◌, ◌≤◌, List, ◌++◌, length, Ok, Err, Result}
use Rattle.answers.specs.declared.refusal.Refusal.{Refusal}
use Rattle.line.specs.declared.heard.Heard.{Heard}
use Rattle.line.specs.declared.heard.Hearing.TheVariants.{Frame}
use Rattle.line.specs.Burst.{frame, octet_count, longest_message, Written, writing}
use Rattle.line.specs.Fcs.{tail}
use Rattle.line.specs.Hearing.{Outcome, hears, work_octets, laid}
use Rattle.line_laws.specs.Passing.{Octets}

-- a message as it is heard from its own burst: all its octets, and next the closing flag's place
abbrev pub heard_back : List ℕ → Outcome
heard_back m = record { answer = record { hearing = Frame (length m + 2); next = length (frame m) - 8 }; octets = m ++ tail m }

-- a buffer that holds a message's burst is heard from place 0 as that message
abbrev pub SentIsHeard : Type 0
SentIsHeard =
    (m old new : List ℕ) (work : ℕ) → Octets m → length m ≤ longest_message → octet_count (length (frame m)) ≤ length new → Written (frame m) old new → work_octets ≤ work
    → hears new (length (frame m)) 0 work ≡ heard_back m

-- where the work buffer is long enough, the message comes back: its answer, and its octets in the work buffer
pub record Back (m work : List ℕ) (r : Heard) : Type 0 where
  pub answer : r ≡ (heard_back m).answer
  pub octets : work ≡ laid (length work) (m ++ tail m)

-- the way of a message out into a burst and back into a work buffer
abbrev pub Loops : List ℕ → List ℕ → List ℕ → List ℕ → List ℕ → Result Heard Refusal → Type 0
Loops m burst burst' work work' (Err e) = (writing m (length burst) ≡ Err e) × (burst' ≡ burst) × (work' ≡ work)
Loops m burst burst' work work' (Ok r) = (writing m (length burst) ≡ Ok (length (frame m))) × Written (frame m) burst burst' × (work_octets ≤ length work → Back m work' r)
