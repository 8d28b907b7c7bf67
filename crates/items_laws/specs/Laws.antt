-- What reading an item means.
use Rattle.std.specs.Prelude.{◌≡◌, ℕ, ◌<◌, true, List, Some, None, Ok, Option, Result, slice_index}
use Rattle.items.specs.declared.types.Fault.{Fault}
use Rattle.items.specs.declared.types.Reading.{Reading}
use Rattle.items.specs.Trees.{Item, Entries, map, encoding, Canonical, At, value_of}

-- os are octets
abbrev pub Octets : List ℕ → Type 0
Octets os = (i : ℕ) → slice_index os i < 256

-- the message was read, and is deterministic
abbrev pub Passes : Result Reading Fault → Type 0
Passes r = r ≡ Ok (record { deterministic = true })

-- os are the encoding of one tree that a message may be, and of no other
pub record EncodesOne (os : List ℕ) : Type 0 where
  pub tree : Item
  pub canonical : Canonical tree
  pub is : encoding tree ≡ os
  pub only : (t : Item) → Canonical t → encoding t ≡ os → t ≡ tree

-- a reading passes exactly when the octets are the encoding of a tree within the limits with ascending keys
pub record PassesExactly (os : List ℕ) (r : Result Reading Fault) : Type 0 where
  pub sound : Passes r → EncodesOne os
  pub back : (t : Item) → Canonical t → encoding t ≡ os → Passes r

-- what a lookup answers where the tree's value is v, or there is none
abbrev pub Found : List ℕ → Option Item → Result (Option ℕ) Fault → Type 0
Found os (Some v) r = (q : ℕ) × (r ≡ Ok (Some q)) × At os q (encoding v)
Found os None r = r ≡ Ok None

-- where a map that a message may be is encoded at p, a lookup answers where the key's value is encoded
abbrev pub FindsValue : List ℕ → ℕ → ℕ → Result (Option ℕ) Fault → Type 0
FindsValue os p key r = (es : Entries) → Canonical (map es) → At os p (encoding (map es)) → Found os (value_of es key) r

-- the value of a key of a map that a message may be is itself a tree that a message may be
abbrev pub ValuesCanonical : Type 0
ValuesCanonical = (es : Entries) (n : ℕ) (v : Item) → Canonical (map es) → value_of es n ≡ Some v → Canonical v
