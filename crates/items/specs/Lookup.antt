-- Looking up an unsigned key in the map at a place.
use Rattle.std.specs.Prelude.{ℕ, zero, suc, ◌+◌, ◌-◌, Bool, cond, ◌&&◌, List, Some, None, Ok, Err, Option, Result, ◌==◌}
use Rattle.std.specs.declared.ops.ControlFlow.{ControlFlow}
use Rattle.std.specs.declared.ops.ControlFlow.TheVariants.{Break, Continue}
use Rattle.items.specs.declared.types.Fault.{Fault}
use Rattle.items.specs.declared.types.Fault.TheVariants.{Malformed}
use Rattle.items.specs.Heads.{Head, head_at, head_size, fault_at, after}
use Rattle.items.specs.Reading.{item_of, start_at, map_entries, containers}

-- the place behind the item at p, which is read on its own, inside a map
unfoldable pub passed : List ℕ → ℕ → Result ℕ Fault
passed os p = after (item_of (containers - 1) os (start_at p)) (λ w. Ok w.place)

-- k is the head of the unsigned number n, in its shortest form or not
abbrev pub is_key : Head → ℕ → Bool
is_key k n = k.major == 0 && k.argument == n

-- the entry at p: where its value starts if it has this key, else where the next entry does
unfoldable pub entry_at : List ℕ → ℕ → ℕ → Result (ControlFlow ℕ ℕ) Fault
entry_at os wanted p =
    after (head_at os p) (λ k.
    cond (is_key k wanted) (Ok (Break (p + head_size os p)))
    (after (passed os p) (λ q. after (passed os q) (λ r. Ok (Continue r)))))

-- a value that is found, or what the entries behind answer
abbrev pub onward : (ℕ → Result (Option ℕ) Fault) → ControlFlow ℕ ℕ → Result (Option ℕ) Fault
onward next (Break q) = Ok (Some q)
onward next (Continue q) = next q

-- where the value of the first of n entries from p on with this key starts; room more entries may stand
unfoldable pub seek : List ℕ → ℕ → ℕ → ℕ → ℕ → Result (Option ℕ) Fault
seek os wanted zero room p = Ok None
seek os wanted (suc n) zero p = Err (fault_at os p)
seek os wanted (suc n) (suc room) p = after (entry_at os wanted p) (onward (seek os wanted n room))

-- what the entries of a map answer; another item is no map
abbrev pub in_map : List ℕ → ℕ → ℕ → Head → Result (Option ℕ) Fault
in_map os wanted p h = cond (h.major == 5) (seek os wanted h.argument map_entries p) (Err Malformed)

-- where the value of this key starts, in the map at p
unfoldable pub lookup_of : List ℕ → ℕ → ℕ → Result (Option ℕ) Fault
lookup_of os p wanted = after (head_at os p) (in_map os wanted (p + head_size os p))
