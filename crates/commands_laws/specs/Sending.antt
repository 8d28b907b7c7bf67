-- An order as its sender writes it: the command type, and the entries of the map of arguments.
use Rattle.std.specs.Prelude.{◌≡◌, ℕ, ◌≤◌, true, ◌⊎◌, List, Some, None, Ok, Option, Result, unsigned_abs}
use Rattle.answers.specs.declared.refusal.Refusal.{Refusal}
use Rattle.items.specs.Trees as trees
use Rattle.items.specs.Trees.{Item, Entries, no_entries, next_entry, unsigned, bytes, map, encoding, Canonical, At}
use Rattle.items_laws.specs.Exact.{integer}
use Rattle.commands.specs.declared.types.Request.{Request}
use Rattle.commands.specs.Orders.{Order, heartbeat, queue, suggest, remove, state, seek, rate, next, previous, text, reserved, in_order}
use Rattle.commands.specs.Entries.{Track, number, octets}
use Rattle.commands_laws.specs.Laws.{Shows}

-- the command type of an order
abbrev pub kind_of : Order Track (List ℕ) → ℕ
kind_of (heartbeat time) = 0
kind_of (queue track priority earliest latest) = 1
kind_of (suggest track weight) = 2
kind_of (remove item) = 3
kind_of (state n) = 10
kind_of (seek milliseconds) = 11
kind_of (rate percent) = 12
kind_of next = 13
kind_of previous = 14
kind_of (text target mode bs) = 20
kind_of (reserved kind) = kind

-- a track is written as a number or as a byte string
abbrev pub track_item : Track → Item
track_item (number n) = unsigned n
track_item (octets bs) = bytes bs

-- an argument under its key, before others
abbrev pub entry : ℕ → Item → Entries → Entries
entry key value es = next_entry (unsigned key) value es

-- one that may be absent
abbrev pub optional_entry : ℕ → Option ℕ → Entries → Entries
optional_entry key None es = es
optional_entry key (Some n) es = entry key (unsigned n) es

-- the arguments of an order, under keys that count from 0; of a reserved type, any
abbrev pub entries_of : Entries → Order Track (List ℕ) → Entries
entries_of any (heartbeat time) = optional_entry 0 time no_entries
entries_of any (queue track priority earliest latest) = entry 0 (track_item track) (entry 1 (integer priority) (optional_entry 2 earliest (optional_entry 3 latest no_entries)))
entries_of any (suggest track weight) = entry 0 (track_item track) (entry 1 (integer weight) no_entries)
entries_of any (remove item) = entry 0 (unsigned item) no_entries
entries_of any (state n) = entry 0 (unsigned n) no_entries
entries_of any (seek milliseconds) = entry 0 (integer milliseconds) no_entries
entries_of any (rate percent) = entry 0 (unsigned percent) no_entries
entries_of any next = no_entries
entries_of any previous = no_entries
entries_of any (text target mode bs) = entry 0 (unsigned target) (entry 1 (unsigned mode) (entry 2 (trees.text bs) no_entries))
entries_of any (reserved kind) = any

-- the numbers of an order are in their ranges, and its reserved type is 30 or 31
abbrev pub Valid : Order Track (List ℕ) → Type 0
Valid (heartbeat time) = Unit {0}
Valid (queue track priority earliest latest) = (unsigned_abs priority ≤ 10) × (in_order earliest latest ≡ true)
Valid (suggest track weight) = unsigned_abs weight ≤ 5
Valid (remove item) = Unit {0}
Valid (state n) = n ≤ 2
Valid (seek milliseconds) = unsigned_abs milliseconds ≤ 60000
Valid (rate percent) = (50 ≤ percent) × (percent ≤ 200)
Valid next = Unit {0}
Valid previous = Unit {0}
Valid (text target mode bs) = (target ≤ 2) × (mode ≤ 2)
Valid (reserved kind) = (kind ≡ 30) ⊎ (kind ≡ 31)

-- this type and these entries are how a valid order is written
pub record Sends (kind : ℕ) (es : Entries) (order : Order Track (List ℕ)) : Type 0 where
  pub valid : Valid order
  pub type_is : kind ≡ kind_of order
  pub entries_are : es ≡ entries_of es order

-- a request is answered exactly where a valid order is written, and shows this order
pub record ReadsSent (os : List ℕ) (kind : ℕ) (es : Entries) (r : Result Request Refusal) : Type 0 where
  pub sound : (request : Request) → r ≡ Ok request → (order : Order Track (List ℕ)) × Sends kind es order × Shows os request order
  pub back : (order : Order Track (List ℕ)) → Sends kind es order → (request : Request) × (r ≡ Ok request) × Shows os request order

-- where a map that a message may hold is encoded at p, it is read so
abbrev pub ReadsOrders : List ℕ → ℕ → ℕ → Result Request Refusal → Type 0
ReadsOrders os kind p r = (es : Entries) → Canonical (map es) → At os p (encoding (map es)) → ReadsSent os kind es r
