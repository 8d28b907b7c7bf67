use Rattle.std.proofs.Common.{◌≡◌, ◌+◌, ◌-◌, ◌*◌, ◌≤◌, []}
use Rattle.items.specs.Held.{held}
use Rattle.items.specs.Reading.{item_of, items_of, entries_of, array_items, map_entries}
use Rattle.items.specs.Walks.{walk}
use Rattle.items.proofs.item.Walker.+array_items_item_map_entries.Given as goal

-- items at a depth calls item at it, and item calls items one below
abbrev pub decreases-item : goal.decreases-item
decreases-item l = 2 * l.depth

abbrev pub decreases-array_items : goal.decreases-array_items
decreases-array_items l = 2 * l.depth + 1

abbrev pub decreases-map_entries : goal.decreases-map_entries
decreases-map_entries l = 2 * l.depth + 1

-- the octets stay, and what is left to read answers as the whole does
abbrev pub invariant-array_items-loop-i : goal.invariant-array_items-loop-i
invariant-array_items-loop-i l =
    (l.self.reader.octets.now ≡ l.initial.self.reader.octets.now)
    × (l.i ≤ array_items)
    × (items_of (item_of l.depth l.initial.self.reader.octets.now) l.initial.self.reader.octets.now (l.count - l.i) (array_items - l.i) (walk l.self)
    ≡ items_of (item_of l.depth l.initial.self.reader.octets.now) l.initial.self.reader.octets.now l.count array_items (walk l.initial.self))

-- the same of a map's entries, behind the keys that are kept
abbrev pub invariant-map_entries-loop-i : goal.invariant-map_entries-loop-i
invariant-map_entries-loop-i l =
    (l.self.reader.octets.now ≡ l.initial.self.reader.octets.now)
    × (l.keys.octets.now ≡ l.initial.self.reader.octets.now)
    × (l.i ≤ map_entries)
    × (l.keys.count ≡ l.i)
    × (entries_of (item_of l.depth l.initial.self.reader.octets.now) l.initial.self.reader.octets.now (l.count - l.i) (map_entries - l.i) (held l.keys) (walk l.self)
    ≡ entries_of (item_of l.depth l.initial.self.reader.octets.now) l.initial.self.reader.octets.now l.count map_entries [] (walk l.initial.self))
