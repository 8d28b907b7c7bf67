-- The order of octet strings, and keys in the order of their coming, the newest first.
use Rattle.std.specs.Prelude.{ℕ, ◌-◌, Bool, true, false, cond, ◌&&◌, ◌||◌, List, [], ◌∷◌, take, drop, Some, None, Option, ◌==◌, nat_lt}
use Rattle.std.specs.Str.{bytes_eq}

-- the octets from p to q
abbrev pub span : List ℕ → ℕ → ℕ → List ℕ
span os p q = take (q - p) (drop p os)

-- xs stands below ys, octet by octet; a front stands below the whole
abbrev pub before : List ℕ → List ℕ → Bool
before [] [] = false
before [] (y ∷ ys) = true
before (x ∷ xs) [] = false
before (x ∷ xs) (y ∷ ys) = cond (x == y) (before xs ys) (nat_lt x y)

-- k stands above the newest of ks
abbrev pub above : List (List ℕ) → List ℕ → Bool
above [] k = true
above (x ∷ xs) k = before x k

-- k is one of ks
abbrev pub has : List (List ℕ) → List ℕ → Bool
has [] k = false
has (x ∷ xs) k = bytes_eq x k || has xs k

-- each stands above the one before
abbrev pub chain : List (List ℕ) → Bool
chain [] = true
chain (x ∷ xs) = chain xs && above xs x

-- nothing where k is one of ks, else whether it stands above the newest
abbrev pub judged : List (List ℕ) → List ℕ → Option Bool
judged ks k = cond (has ks k) None (Some (above ks k))
