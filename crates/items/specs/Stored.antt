-- What the stored places of keys hold.
use Rattle.std.specs.Prelude.{◌≡◌, ℕ, zero, suc, ◌<◌, ◌≤◌, Bool, List, [], ◌∷◌, length, slice_index}
use Rattle.items.specs.Reading.{map_entries}
use Rattle.items.specs.Keys.{span, chain}

-- the first n keys, the newest first
abbrev pub keys_of : List ℕ → List ℕ → List ℕ → ℕ → List (List ℕ)
keys_of os ps qs zero = []
keys_of os ps qs (suc n) = span os (slice_index ps n) (slice_index qs n) ∷ keys_of os ps qs n

-- the first n places are those of keys of os, and `sorted` says whether each stands above the one before
pub record Kept (os ps qs : List ℕ) (n : ℕ) (sorted : Bool) : Type 0 where
  pub few : n ≤ map_entries
  pub ordered : (i : ℕ) → i < n → slice_index ps i ≤ slice_index qs i
  pub within : (i : ℕ) → i < n → slice_index qs i ≤ length os
  pub sorted_is : sorted ≡ chain (keys_of os ps qs n)
  pub starts_long : length ps ≡ map_entries
  pub ends_long : length qs ≡ map_entries
