-- Where flags stand, and what lies between them.
use Rattle.std.specs.Prelude.{◌≡◌, ℕ, zero, suc, ◌+◌, ◌-◌, ◌*◌, ◌<◌, ◌≤◌, Bool, true, false, cond, ◌&&◌, List, [], ◌∷◌, length, take, drop, Some, None, Option, nat_lt}
use Rattle.std.specs.Bool.{beq}

-- the eight bits of a flag
abbrev pub flag : List Bool
flag = false ∷ true ∷ true ∷ true ∷ true ∷ true ∷ true ∷ false ∷ []

-- the second list begins with the first
unfoldable pub starts : List Bool → List Bool → Bool
starts [] ys = true
starts (x ∷ xs) [] = false
starts (x ∷ xs) (y ∷ ys) = beq x y && starts xs ys

-- the place of the first flag in the bits, which begin at place k
unfoldable pub first_flag : ℕ → List Bool → Option ℕ
first_flag k [] = None
first_flag k (b ∷ bits) = cond (starts flag (b ∷ bits)) (Some k) (first_flag (k + 1) bits)

-- the place behind the flags that stand at the front of the bits one after another, n of them at most
unfoldable pub past_flags : ℕ → ℕ → List Bool → ℕ
past_flags zero k bits = k
past_flags (suc n) k bits = cond (starts flag bits) (past_flags n (k + 8) (drop 8 bits)) k

-- a place with bits at it or behind it
abbrev pub within : List Bool → ℕ → Option ℕ
within bits b = cond (nat_lt b (length bits)) (Some b) None

-- where the body starts: behind the opening flag, which is the first at or after start, or the last of those that follow it eight bits apart
abbrev pub behind_opening : List Bool → Option ℕ → Option ℕ
behind_opening bits None = None
behind_opening bits (Some k) = within bits (past_flags (length bits) k (drop k bits))

-- the body's start, if there is an opening flag with bits behind it
unfoldable pub body_start : List Bool → ℕ → Option ℕ
body_start bits start = behind_opening bits (first_flag start (drop start bits))

-- the closing flag: the first at or after the body's start
unfoldable pub closing : List Bool → ℕ → Option ℕ
closing bits b = first_flag b (drop b bits)

-- the bits from place b up to place c
unfoldable pub between : ℕ → ℕ → List Bool → List Bool
between b c bits = take (c - b) (drop b bits)

-- a flag stands at place k
abbrev pub FlagAt : List Bool → ℕ → Type 0
FlagAt bits k = take 8 (drop k bits) ≡ flag

-- k is the first place of a flag at or after start
pub record FirstAt (bits : List Bool) (start k : ℕ) : Type 0 where
  pub from : start ≤ k
  pub here : FlagAt bits k
  pub none : (j : ℕ) → start ≤ j → j < k → FlagAt bits j → ⊥

-- b is behind the opening flag: a first flag, others that follow it eight bits apart, and none at b
pub record OpensAt (bits : List Bool) (start b : ℕ) : Type 0 where
  pub first : ℕ
  pub more : ℕ
  pub at : b ≡ first + 8 * (more + 1)
  pub from : FirstAt bits start first
  pub each : (i : ℕ) → i ≤ more → FlagAt bits (first + 8 * i)
  pub last : FlagAt bits b → ⊥
