-- Decoded bits.
use Rattle.std.proofs.Common.{◌≡◌, ℕ, zero, suc, ◌+◌, ◌-◌, Bool, true, List, refl, add-one, arith}
use mathlib.Core.Bool.{beq}
use Rattle.line.specs.Bits.{tone, tone_before, decoded}

pub before-first : (octets : List ℕ) (k : ℕ) (b : Bool) → k ≡ 0 → b ≡ true → b ≡ tone_before octets k
unfolding tone_before
before-first octets k b e t = rw e t

pub before-other : (octets : List ℕ) (k : ℕ) (b : Bool) → (k ≡ 0 → ⊥) → b ≡ tone octets (k - 1) → b ≡ tone_before octets k
unfolding tone_before
before-other octets zero b n t = absurd (n refl)
before-other octets (suc k) b n t = let e : suc k - 1 ≡ k = omega arith in rw e at t

pub decoded-is : (octets : List ℕ) (k : ℕ) (a b : Bool) → a ≡ tone octets k → b ≡ tone_before octets k → beq a b ≡ decoded octets k
unfolding decoded
decoded-is octets k a b e f = rw (e, f)

pub before-next : (octets : List ℕ) (k : ℕ) → tone_before octets (k + 1) ≡ tone octets k
unfolding tone_before
before-next octets k = rw (add-one k)
