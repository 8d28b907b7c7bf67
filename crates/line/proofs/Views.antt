-- A listener seen by the last 0 of the body.
use Rattle.std.proofs.Common.{◌≡◌, ℕ, ◌+◌, ◌%◌, ◌≤◌, Bool, true, false, cond, ◌&&◌, eqb, ltb, refl, ap, ◌∙◌, arith}
use Rattle.line.specs.declared.listener.Phase.{Phase}
use Rattle.line.specs.declared.listener.Phase.TheVariants.{Hunting, Inside, AfterFiveOnes}
use Rattle.line.specs.declared.listener.Boundary.{Boundary}
use Rattle.line.specs.declared.listener.Boundary.TheVariants.{Start, RemovedZero}
use Rattle.line.specs.declared.listener.Sign.{Sign}
use Rattle.line.specs.declared.listener.Listener.{Listener}
use Rattle.line.specs.Listening.{tell}
use Rattle.line.specs.Listening as real

-- what the last 0 of the body was: none yet, kept, or removed
pub data LastZero : Type 0 where
  Missing : LastZero
  Kept : LastZero
  Removed : LastZero

pub record View : Type 0 where
  pub phase : Phase
  pub ones : ℕ
  pub zero : LastZero
  pub broken : Bool

abbrev pub zero_of : Bool → Boundary → LastZero
zero_of false at = Kept
zero_of true Start = Missing
zero_of true RemovedZero = Removed

abbrev pub view : Listener → View
view l = record { phase = l.phase; ones = l.ones; zero = zero_of l.fresh l.boundary; broken = l.broken }

abbrev pub sixth : Bool → LastZero → View
sixth broken Missing = record { phase = Hunting; ones = 7; zero = Missing; broken = true }
sixth broken Kept = record { phase = Hunting; ones = 6; zero = Kept; broken = broken }
sixth broken Removed = record { phase = Hunting; ones = 6; zero = Removed; broken = true }

abbrev pub go : Phase → Bool → ℕ → LastZero → Bool → View
go Hunting true ones z broken = record { phase = Hunting; ones = cond (ltb ones 7) (ones + 1) ones; zero = z; broken = cond (eqb ones 6) true broken }
go Hunting false ones z broken = record { phase = Hunting; ones = cond (eqb ones 6) ones 0; zero = z; broken = broken }
go Inside true ones z broken =
    cond (eqb (ones + 1) 5) (record { phase = AfterFiveOnes; ones = ones + 1; zero = z; broken = broken }) (record { phase = Inside; ones = ones + 1; zero = z; broken = broken })
go Inside false ones z broken = record { phase = Inside; ones = 0; zero = Kept; broken = broken }
go AfterFiveOnes true ones z broken = sixth broken z
go AfterFiveOnes false ones z broken = record { phase = Inside; ones = 0; zero = Removed; broken = broken }

abbrev pub next : View → Bool → View
next l bit = go l.phase bit l.ones l.zero l.broken

abbrev pub sign : View → Bool → Sign
sign l bit = tell l.phase bit l.ones

abbrev pub SoundBy : Phase → ℕ → Type 0
SoundBy Hunting n = n ≤ 7
SoundBy Inside n = n ≤ 4
SoundBy AfterFiveOnes n = n ≤ 5

-- the choice of the phase, made for the whole
whole : (t : Bool) (n : ℕ) (z : LastZero) (br : Bool)
    → ◌≡◌ {A = View} (record { phase = cond t AfterFiveOnes Inside; ones = n; zero = z; broken = br })
    (cond t (record { phase = AfterFiveOnes; ones = n; zero = z; broken = br }) (record { phase = Inside; ones = n; zero = z; broken = br }))
whole true n z br = refl
whole false n z br = refl

still_fresh : (f : Bool) → (f && true) ≡ f
still_fresh true = refl
still_fresh false = refl

not_fresh : (f : Bool) → (f && false) ≡ false
not_fresh true = refl
not_fresh false = refl

view-go : (ph : Phase) (b : Bool) (n : ℕ) (f : Bool) (at : Boundary) (br : Bool) → SoundBy ph n → view (real.go ph b n f at br) ≡ go ph b n (zero_of f at) br
view-go Hunting true n f at br h = refl
view-go Hunting false n f at br h = refl
view-go Inside true n f at br h =
    let m : (n + 1) % 256 ≡ n + 1 = omega arith in
    let e = still_fresh f in
    ap (λ k. view (real.in_body k (f && true) at br)) m ∙ ap (λ g. view (real.in_body (n + 1) g at br)) e ∙ whole (eqb (n + 1) 5) (n + 1) (zero_of f at) br
view-go Inside false n f at br h = ap (λ g. view (real.in_body 0 g at br)) (not_fresh f)
view-go AfterFiveOnes true n false at br h = refl
view-go AfterFiveOnes true n true Start br h = refl
view-go AfterFiveOnes true n true RemovedZero br h = refl
view-go AfterFiveOnes false n f at br h = refl

-- a step of the listener is a step of its view
pub view-next : (l : Listener) (b : Bool) → SoundBy l.phase l.ones → view (real.next l b) ≡ next (view l) b
view-next l b h = view-go l.phase b l.ones l.fresh l.boundary l.broken h
