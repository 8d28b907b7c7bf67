-- Trees of items, and how each is encoded: with the shortest heads, a map's keys in the tree's order.
use Rattle.std.specs.Prelude.{◌≡◌, ℕ, zero, suc, ◌+◌, ◌-◌, ◌*◌, ◌/◌, ◌%◌, ◌^◌, ◌<◌, ◌≤◌, Bool, true, false, cond, ◌&&◌, List, [], ◌∷◌, ◌++◌, length, Some, None, Option, ◌==◌, nat_lt, slice_index}
use Rattle.text.specs.Table.{is_text}
use Rattle.items.specs.Keys.{above}
use Rattle.items.specs.Reading.{map_entries, array_items, message_items, containers}

-- an item; negative n is the number -1 - n
mutual
  pub data Item : Type 0 where
    unsigned : ℕ → Item
    negative : ℕ → Item
    bytes : List ℕ → Item
    text : List ℕ → Item
    array : Items → Item
    map : Entries → Item
    simple_false : Item
    simple_true : Item
    simple_null : Item

  -- the items of an array
  pub data Items : Type 0 where
    no_items : Items
    next_item : Item → Items → Items

  -- the keys of a map, each with its value
  pub data Entries : Type 0 where
    no_entries : Entries
    next_entry : Item → Item → Entries → Entries

-- n in k octets, the most significant first
abbrev pub octets_of : ℕ → ℕ → List ℕ
octets_of zero n = []
octets_of (suc k) n = octets_of k (n / 256) ++ ((n % 256) ∷ [])

-- the shortest head of major type m with argument n
unfoldable pub head_of : ℕ → ℕ → List ℕ
head_of m n =
    cond (nat_lt n 24) ((32 * m + n) ∷ [])
    (cond (nat_lt n 256) ((32 * m + 24) ∷ octets_of 1 n)
    (cond (nat_lt n 65536) ((32 * m + 25) ∷ octets_of 2 n)
    (cond (nat_lt n 4294967296) ((32 * m + 26) ∷ octets_of 4 n)
    ((32 * m + 27) ∷ octets_of 8 n))))

-- how many items an array has
abbrev pub array_size : Items → ℕ
array_size no_items = 0
array_size (next_item t ts) = suc (array_size ts)

-- how many entries a map has
abbrev pub map_size : Entries → ℕ
map_size no_entries = 0
map_size (next_entry k v es) = suc (map_size es)

-- the octets of an item
unfoldable mutual
  pub encoding : Item → List ℕ
  encoding (unsigned n) = head_of 0 n
  encoding (negative n) = head_of 1 n
  encoding (bytes bs) = head_of 2 (length bs) ++ bs
  encoding (text bs) = head_of 3 (length bs) ++ bs
  encoding (array ts) = head_of 4 (array_size ts) ++ items_encoding ts
  encoding (map es) = head_of 5 (map_size es) ++ entries_encoding es
  encoding simple_false = 0xf4 ∷ []
  encoding simple_true = 0xf5 ∷ []
  encoding simple_null = 0xf6 ∷ []

  pub items_encoding : Items → List ℕ
  items_encoding no_items = []
  items_encoding (next_item t ts) = encoding t ++ items_encoding ts

  pub entries_encoding : Entries → List ℕ
  entries_encoding no_entries = []
  entries_encoding (next_entry k v es) = encoding k ++ (encoding v ++ entries_encoding es)

-- how many items an item is in all, keys and containers counted
unfoldable mutual
  pub total : Item → ℕ
  total (unsigned n) = 1
  total (negative n) = 1
  total (bytes bs) = 1
  total (text bs) = 1
  total (array ts) = 1 + items_total ts
  total (map es) = 1 + entries_total es
  total simple_false = 1
  total simple_true = 1
  total simple_null = 1

  pub items_total : Items → ℕ
  items_total no_items = 0
  items_total (next_item t ts) = total t + items_total ts

  pub entries_total : Entries → ℕ
  entries_total no_entries = 0
  entries_total (next_entry k v es) = total k + (total v + entries_total es)

-- in each map each key's octets stand above the previous key's; ks are a map's keys so far, the newest first
unfoldable mutual
  pub ascending : Item → Bool
  ascending (unsigned n) = true
  ascending (negative n) = true
  ascending (bytes bs) = true
  ascending (text bs) = true
  ascending (array ts) = items_ascending ts
  ascending (map es) = entries_ascending [] es
  ascending simple_false = true
  ascending simple_true = true
  ascending simple_null = true

  pub items_ascending : Items → Bool
  items_ascending no_items = true
  items_ascending (next_item t ts) = ascending t && items_ascending ts

  pub entries_ascending : List (List ℕ) → Entries → Bool
  entries_ascending ks no_entries = true
  entries_ascending ks (next_entry k v es) = ascending k && (above ks (encoding k) && (ascending v && entries_ascending (encoding k ∷ ks) es))

-- numbers of 64 bits, text in UTF-8, no array and no map too large, at most d containers around one another
unfoldable mutual
  pub Within : Item → ℕ → Type 0
  Within (unsigned n) d = n < 2 ^ 64
  Within (negative n) d = n < 2 ^ 64
  Within (bytes bs) d = length bs < 2 ^ 64
  Within (text bs) d = (length bs < 2 ^ 64) × (is_text bs ≡ true)
  Within (array ts) d = (array_size ts ≤ array_items) × (1 ≤ d) × ItemsWithin ts (d - 1)
  Within (map es) d = (map_size es ≤ map_entries) × (1 ≤ d) × EntriesWithin es (d - 1)
  Within simple_false d = Unit {0}
  Within simple_true d = Unit {0}
  Within simple_null d = Unit {0}

  pub ItemsWithin : Items → ℕ → Type 0
  ItemsWithin no_items d = Unit {0}
  ItemsWithin (next_item t ts) d = Within t d × ItemsWithin ts d

  pub EntriesWithin : Entries → ℕ → Type 0
  EntriesWithin no_entries d = Unit {0}
  EntriesWithin (next_entry k v es) d = Within k d × Within v d × EntriesWithin es d

-- a tree that a message may be: within the limits, with ascending keys
pub record Canonical (t : Item) : Type 0 where
  pub within : Within t containers
  pub few : total t ≤ message_items
  pub ascends : ascending t ≡ true

-- os has xs from p on
pub record At (os : List ℕ) (p : ℕ) (xs : List ℕ) : Type 0 where
  pub within : p + length xs ≤ length os
  pub same : (i : ℕ) → i < length xs → slice_index os (p + i) ≡ slice_index xs i

-- os has xs from p to q
pub record Runs (os : List ℕ) (p : ℕ) (xs : List ℕ) (q : ℕ) : Type 0 where
  pub at : At os p xs
  pub on : q ≡ p + length xs

-- t is the unsigned number n
abbrev pub is_unsigned : Item → ℕ → Bool
is_unsigned (unsigned m) n = m == n
is_unsigned (negative m) n = false
is_unsigned (bytes bs) n = false
is_unsigned (text bs) n = false
is_unsigned (array ts) n = false
is_unsigned (map es) n = false
is_unsigned simple_false n = false
is_unsigned simple_true n = false
is_unsigned simple_null n = false

-- the value of the first entry whose key is the unsigned number n
abbrev pub value_of : Entries → ℕ → Option Item
value_of no_entries n = None
value_of (next_entry k v es) n = cond (is_unsigned k n) (Some v) (value_of es n)
