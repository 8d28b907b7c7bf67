-- Where a walker stands.
use Rattle.std.specs.Prelude.{◌≡◌, ℕ, Ok, Err, Result}
use Rattle.items.specs.declared.types.Fault.{Fault}
use Rattle.items.specs.declared.item.Walker.{Walker}
use Rattle.items.specs.declared.reader.Reader.{Reader}
use Rattle.items.specs.Reading.{Walk}

-- where it stands
abbrev pub walk : Walker → Walk
walk w = record { place = w.reader.place; left = w.left; deterministic = w.deterministic }

-- r tells what the reading came to: that it went on to w, or its fault
abbrev pub Told : {X : Type 0} → Result X Fault → Result Walk Fault → Walk → Type 0
Told (Ok x) came w = came ≡ Ok w
Told (Err e) came w = came ≡ Err e

-- the place of a reader, or the fault
abbrev pub placed : Result Reader Fault → Result ℕ Fault
placed (Ok r) = Ok r.place
placed (Err e) = Err e
