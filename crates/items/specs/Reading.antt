-- How a message is read, once, from the left: the first thing wrong decides the fault.
use Rattle.std.specs.Prelude.{ℕ, zero, suc, ◌+◌, ◌-◌, Bool, true, false, cond, ◌&&◌, List, [], ◌∷◌, length, Some, None, Ok, Err, Option, Result, ◌==◌, nat_le}
use Rattle.items.specs.declared.types.Fault.{Fault}
use Rattle.items.specs.declared.types.Fault.TheVariants.{Malformed}
use Rattle.items.specs.declared.types.Reading.{Reading}
use Rattle.items.specs.Keys.{span, judged}
use Rattle.items.specs.Heads.{Head, head_at, head_size, fault_at, after, skipped, text_read}

-- the limits: entries of a map, items of an array, items in all, containers around one another
abbrev pub map_entries : ℕ
map_entries = 64

abbrev pub array_items : ℕ
array_items = 256

abbrev pub message_items : ℕ
message_items = 1024

abbrev pub containers : ℕ
containers = 32

-- where a reading stands: its place, how many more items may come, and whether all so far was deterministic
pub record Walk : Type 0 where
  pub place : ℕ
  pub left : ℕ
  pub deterministic : Bool

-- the same at another place
abbrev pub move_to : Walk → ℕ → Walk
move_to w q = record { place = q; left = w.left; deterministic = w.deterministic }

-- the same, deterministic only if this is too
abbrev pub also : Walk → Bool → Walk
also w good = record { place = w.place; left = w.left; deterministic = w.deterministic && good }

-- n items of an array, of which room more may stand; f reads one
unfoldable pub items_of : (Walk → Result Walk Fault) → List ℕ → ℕ → ℕ → Walk → Result Walk Fault
items_of f os zero room w = Ok w
items_of f os (suc n) zero w = Err (fault_at os w.place)
items_of f os (suc n) (suc room) w = after (f w) (items_of f os n room)

-- a key that an earlier one equals is a fault at its end, and else it ascends or not
abbrev pub judged_key : Option Bool → Walk → (Walk → Result Walk Fault) → Result Walk Fault
judged_key None u next = Err Malformed
judged_key (Some ascends) u next = next (also u ascends)

-- n entries of a map, of which room more may stand, behind the keys ks, the newest first; f reads a key or a value
unfoldable pub entries_of : (Walk → Result Walk Fault) → List ℕ → ℕ → ℕ → List (List ℕ) → Walk → Result Walk Fault
entries_of f os zero room ks w = Ok w
entries_of f os (suc n) zero ks w = Err (fault_at os w.place)
entries_of f os (suc n) (suc room) ks w =
    after (f w) (λ u.
    judged_key (judged ks (span os w.place u.place)) u (λ v.
    after (f v) (entries_of f os n room (span os w.place u.place ∷ ks))))

-- false, true and null: the octets F4, F5 and F6
abbrev pub simple : Head → Bool
simple h = h.major == 7 && (h.shortest && (nat_le 20 h.argument && nat_le h.argument 22))

-- what lies behind the head h; inner reads what a map (true) or an array holds
unfoldable pub body_of : (Bool → ℕ → Walk → Result Walk Fault) → List ℕ → Head → Walk → Result Walk Fault
body_of inner os h w =
    cond (nat_le h.major 1) (Ok w)
    (cond (h.major == 2) (after (skipped os w.place h.argument) (λ q. Ok (move_to w q)))
    (cond (h.major == 3) (after (text_read os w.place h.argument) (λ q. Ok (move_to w q)))
    (cond (h.major == 4) (inner false h.argument w)
    (cond (h.major == 5) (inner true h.argument w)
    (cond (simple h) (Ok w) (Err Malformed))))))

-- behind the head h: one item fewer may come
abbrev pub past_head : List ℕ → Walk → Head → Walk
past_head os w h = record { place = w.place + head_size os w.place; left = w.left - 1; deterministic = w.deterministic && h.shortest }

-- one item, unless no more may come
unfoldable pub item_with : (Bool → ℕ → Walk → Result Walk Fault) → List ℕ → Walk → Result Walk Fault
item_with inner os w =
    cond (w.left == 0) (Err (fault_at os w.place))
    (after (head_at os w.place) (λ h. body_of inner os h (past_head os w h)))

-- what a map (true) or an array of n holds, where so many containers may lie around one another
unfoldable pub inside : ℕ → List ℕ → Bool → ℕ → Walk → Result Walk Fault
inside zero os is_map n w = Err Malformed
inside (suc d) os false n w = items_of (item_with (inside d os) os) os n array_items w
inside (suc d) os true n w = entries_of (item_with (inside d os) os) os n map_entries [] w

-- one item, of which so many containers may lie around one another
unfoldable pub item_of : ℕ → List ℕ → Walk → Result Walk Fault
item_of d os w = item_with (inside d os) os w

-- the start of a reading at p
abbrev pub start_at : ℕ → Walk
start_at p = record { place = p; left = message_items; deterministic = true }

-- nothing may lie behind the item
abbrev pub ended : List ℕ → Walk → Result Reading Fault
ended os w = cond (w.place == length os) (Ok (record { deterministic = w.deterministic })) (Err Malformed)

-- the octets as one item with nothing behind it
unfoldable pub read_of : List ℕ → Result Reading Fault
read_of os = after (item_of containers os (start_at 0)) (ended os)
