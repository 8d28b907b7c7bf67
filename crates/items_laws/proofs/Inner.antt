-- What a map that a message may be holds, a message may be too.
use Rattle.std.proofs.Common.{◌≡◌, ℕ, ◌-◌, ◌≤◌, Bool, true, false, cond, List, [], ◌∷◌, Some, subst, arith}
use Rattle.std.proofs.lemmas.Bool.{and_parts}
use Rattle.items.specs.Keys.{above}
use Rattle.items.specs.Reading.{containers, message_items}
use Rattle.items.specs.Trees.{Item, unsigned, negative, bytes, text, array, map, simple_false, simple_true, simple_null, Items, no_items, next_item, Entries, no_entries, next_entry, encoding, total, entries_total, ascending, entries_ascending, Within, ItemsWithin, EntriesWithin, Canonical, is_unsigned, value_of}
use Rattle.items_laws.proofs.Runnings.{none-some, some_same}

-- more containers may lie around one another
mutual
  unfolding Within

  pub within_more : (t : Item) (d e : ℕ) → d ≤ e → Within t d → Within t e
  within_more (unsigned n) d e l w = w
  within_more (negative n) d e l w = w
  within_more (bytes bs) d e l w = w
  within_more (text bs) d e l w = w
  within_more (array ts) d e l (few, deep, inner) = (few, omega arith, items-within-more ts (d - 1) (e - 1) (omega arith) inner)
  within_more (map es) d e l (few, deep, inner) = (few, omega arith, entries-within-more es (d - 1) (e - 1) (omega arith) inner)
  within_more simple_false d e l w = tt
  within_more simple_true d e l w = tt
  within_more simple_null d e l w = tt

  items-within-more : (ts : Items) (d e : ℕ) → d ≤ e → ItemsWithin ts d → ItemsWithin ts e
  items-within-more no_items d e l w = tt
  items-within-more (next_item t ts) d e l (here, rest) = (within_more t d e l here, items-within-more ts d e l rest)

  entries-within-more : (es : Entries) (d e : ℕ) → d ≤ e → EntriesWithin es d → EntriesWithin es e
  entries-within-more no_entries d e l w = tt
  entries-within-more (next_entry k v es) d e l (key_in, value_in, rest) = (within_more k d e l key_in, within_more v d e l value_in, entries-within-more es d e l rest)

-- the value of a key is within what its map is within
record Inside (v : Item) (d most : ℕ) : Type 0 where
  within : Within v d
  few : total v ≤ most
  ascends : ascending v ≡ true

entries-value : (es : Entries) (ks : List (List ℕ)) (n : ℕ) (v : Item) (d most : ℕ) → EntriesWithin es d → entries_total es ≤ most → entries_ascending ks es ≡ true → value_of es n ≡ Some v → Inside v d most
unfolding Within total ascending
entries-value no_entries ks n v d most w few up is = absurd (none-some is)
entries-value (next_entry k x es) ks n v d most (key_in, value_in, rest) few up is =
    let u₁ = and_parts (ascending k) _ up in
    let u₂ = and_parts (above ks (encoding k)) _ u₁.1 in
    let u₃ = and_parts (ascending x) _ u₂.1 in
    by (record { within = value_in; few = omega arith; ascends = u₃.0 }) (entries-value es (encoding k ∷ ks) n v d most rest (omega arith) u₃.1) (is_unsigned k n) is
  where
    by : Inside x d most → (value_of es n ≡ Some v → Inside v d most) → (b : Bool) → cond b (Some x) (value_of es n) ≡ Some v → Inside v d most
    by here later true got = subst (λ y. Inside y d most) (some_same got) here
    by here later false got = later got

pub value-canonical : (es : Entries) (n : ℕ) (v : Item) → Canonical (map es) → value_of es n ≡ Some v → Canonical v
unfolding Within total ascending
value-canonical es n v good is =
    let i = entries-value es [] n v 31 message_items good.within.2 (omega (arith, good.few)) good.ascends is in
    record { within = within_more v 31 containers (omega arith) i.within; few = i.few; ascends = i.ascends }
