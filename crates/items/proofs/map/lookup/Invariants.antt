use Rattle.std.proofs.Common.{◌≡◌, ◌-◌, ◌≤◌, length}
use Rattle.items.specs.Reading.{map_entries}
use Rattle.items.specs.Lookup.{seek, lookup_of}
use Rattle.items.proofs.map.lookup.Given as goal

-- what is left to walk answers as the whole does
abbrev pub invariant-loop-i : goal.invariant-loop-i
invariant-loop-i l =
    (l.guard.place.now ≤ length l.octets)
    × (l.i ≤ map_entries)
    × (seek l.octets l.key (l.i-end - l.i) (map_entries - l.i) l.guard.place.now ≡ lookup_of l.octets l.initial.guard.old l.key)
