-- Single entries of the maps of a message, read forward: what is found, and the place behind it.
use Rattle.std.specs.Prelude.{◌≡◌, ℕ, ◌-◌, cond, ◌&&◌, List, Some, None, Option, ◌==◌, nat_le}
use Rattle.items.specs.declared.types.Span.{Span}
use Rattle.items.specs.Heads.{part}
use Rattle.message.specs.declared.entries.Entries.{Entries}
use Rattle.items.specs.Fields.{bind, unsigned_at, map_head_at, key_at, bytes_at}

-- a map of at least so many entries: how many it has above these, and where they start
unfoldable pub map_of : ℕ → List ℕ → ℕ → Option (ℕ × ℕ)
map_of required os p = bind (map_head_at os p) (λ x. cond (nat_le required x.0) (Some (x.0 - required, x.1)) None)

-- an identifier: the 16 octets of a byte string
unfoldable pub id_at : List ℕ → ℕ → Option (List ℕ × ℕ)
id_at os p = bind (bytes_at os p) (λ x. cond (x.0.len == 16) (Some (part os x.0.start 16, x.1)) None)

-- an alg, 1 to 3
unfoldable pub alg_at : List ℕ → ℕ → Option (ℕ × ℕ)
alg_at os p = bind (unsigned_at os p) (λ x. cond (nat_le 1 x.0 && nat_le x.0 3) (Some x) None)

-- a context or an echo: a byte string of up to 32 octets
unfoldable pub context_at : List ℕ → ℕ → Option (Span × ℕ)
context_at os p = bind (bytes_at os p) (λ x. cond (nat_le x.0.len 32) (Some x) None)

-- the key k, if an entry is left and the next one has it
unfoldable pub next_key : ℕ → ℕ → List ℕ → ℕ → Option ℕ
next_key left k os p = cond (left == 0) None (key_at k os p)

-- by the place behind its key: the value and one entry less that is left, or nothing where there is no such key
abbrev pub chosen : {V : Type 0} → ℕ → (List ℕ → ℕ → Option (V × ℕ)) → List ℕ → ℕ → Option ℕ → Option (Option V × ℕ × ℕ)
chosen left parse os p None = Some (None, left, p)
chosen left parse os p (Some q) = bind (parse os q) (λ x. Some (Some x.0, left - 1, x.1))

-- an entry that may be there: its value or none, how many entries are left, and the place behind it
abbrev pub optional : {V : Type 0} → ℕ → ℕ → (List ℕ → ℕ → Option (V × ℕ)) → List ℕ → ℕ → Option (Option V × ℕ × ℕ)
optional left k parse os p = chosen left parse os p (next_key left k os p)

-- no entry is left
abbrev pub ended : {X : Type 0} → ℕ → X → Option X
ended left x = cond (left == 0) (Some x) None

-- the entries start where the head of the map says, in these octets, with so many above the required ones
abbrev pub Opens : List ℕ → Option Entries → Option (ℕ × ℕ) → Type 0
Opens os None came = came ≡ None
Opens os (Some e) came = (e.octets.now ≡ os) × (came ≡ Some (e.left, e.place))

-- a value was read, and the entries go on behind it, or none was
abbrev pub Reads : {V : Type 0} → Option V → Entries → Entries → Option (V × ℕ) → Type 0
Reads None old new came = came ≡ None
Reads (Some v) old new came = (came ≡ Some (v, new.place)) × (new.octets.now ≡ old.octets.now) × (new.left ≡ old.left)

-- the same, where fewer entries may be left
abbrev pub Leaves : {V : Type 0} → Option V → Entries → Entries → Option (V × ℕ × ℕ) → Type 0
Leaves None old new came = came ≡ None
Leaves (Some v) old new came = (came ≡ Some (v, new.left, new.place)) × (new.octets.now ≡ old.octets.now)
