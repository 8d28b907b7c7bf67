-- What the host keeps and hands in, as it is read, and as it is left.
use Rattle.std.specs.Prelude.{ℕ, Bool, cond, not, Some, None, Option, ◌==◌}
use Rattle.marks.specs.declared.mark.CutLeaves.{CutLeaves}
use Rattle.marks.specs.declared.mark.CutLeaves.TheVariants.{Old, New, Torn}
use Rattle.judging.specs.declared.answer.Listening.{Listening}
use Rattle.hosts.specs.declared.supply.Supply.{Supply}
use Rattle.owac_c.specs.declared.host.OwacOptional.{OwacOptional}
use Rattle.owac_c.specs.declared.host.OwacSupply.{OwacSupply}
use Rattle.owac_c.specs.declared.host.OwacListening.{OwacListening}

-- a flag: 0 is no, and any other octet is yes
abbrev pub flag_in : ℕ → Bool
flag_in n = not (n == 0)

abbrev pub flag_as : Bool → ℕ
flag_as b = cond b 1 0

-- a number that may be absent
abbrev pub option_in : OwacOptional → Option ℕ
option_in o = cond (o.given == 0) None (Some o.value)

abbrev pub option_as : Option ℕ → OwacOptional
option_as None = record { value = 0; given = 0 }
option_as (Some n) = record { value = n; given = 1 }

-- what a cut leaves: 0 the old cell, 1 the new one, any other octet a torn one
abbrev pub leaves_in : ℕ → CutLeaves
leaves_in n = cond (n == 0) Old (cond (n == 1) New Torn)

abbrev pub leaves_as : CutLeaves → ℕ
leaves_as Old = 0
leaves_as New = 1
leaves_as Torn = 2

-- the supply that the host keeps, as it is read and as it is left
abbrev pub supply_in : OwacSupply → Supply
supply_in p = record { power = record { on = flag_in p.on; charge = p.charge; leaves = leaves_in p.leaves }; last = option_in p.last; floor = option_in p.floor }

abbrev pub supply_as : Supply → OwacSupply
supply_as p = record { charge = p.power.charge; last = option_as p.last; floor = option_as p.floor; on = flag_as p.power.on; leaves = leaves_as p.power.leaves }

-- how the host listens
abbrev pub listening_in : OwacListening → Listening
listening_in l = record { count = l.count; start = l.start; clock = l.clock; suspect = flag_in l.suspect }
