-- The keys of a map that are kept.
use Rattle.std.specs.Prelude.{◌≡◌, ℕ, ◌+◌, Bool, List, ◌∷◌, Ok, Err, Result}
use Rattle.items.specs.declared.types.Fault.{Fault}
use Rattle.items.specs.declared.types.Keys.{Keys}
use Rattle.items.specs.Stored.{keys_of}

-- the keys, as they were received, the newest first
unfoldable pub held : Keys → List (List ℕ)
held k = keys_of k.octets.now k.starts k.ends k.count

-- where a key was added, it is the newest
abbrev pub Added : Result Bool Fault → Keys → Keys → List ℕ → Type 0
Added (Ok b) old new key = (new.octets.now ≡ old.octets.now) × (held new ≡ key ∷ held old) × (new.count ≡ old.count + 1)
Added (Err e) old new key = Unit {0}
