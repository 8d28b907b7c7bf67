-- What a listener does at a bit.
use Rattle.std.specs.Prelude.{ℕ, ◌+◌, ◌%◌, Bool, true, false, cond, ◌&&◌, ◌==◌, nat_lt}
use Rattle.line.specs.declared.listener.Phase.{Phase}
use Rattle.line.specs.declared.listener.Phase.TheVariants.{Hunting, Inside, AfterFiveOnes}
use Rattle.line.specs.declared.listener.Boundary.{Boundary}
use Rattle.line.specs.declared.listener.Boundary.TheVariants.{Start, RemovedZero}
use Rattle.line.specs.declared.listener.Sign.{Sign}
use Rattle.line.specs.declared.listener.Sign.TheVariants.{Nothing, Bit, Flag}
use Rattle.line.specs.declared.listener.Listener.{Listener}

-- after a sixth 1: only behind a 0 that was kept may it be a flag that closes a body that is right
abbrev pub sixth : Bool → Boundary → Bool → Listener
sixth false at broken = record { phase = Hunting; ones = 6; fresh = false; boundary = at; broken = broken }
sixth true Start broken = record { phase = Hunting; ones = 7; fresh = true; boundary = Start; broken = true }
sixth true RemovedZero broken = record { phase = Hunting; ones = 6; fresh = true; boundary = RemovedZero; broken = true }

-- in a body: one more bit, and five 1s in a row at some time
abbrev pub in_body : ℕ → Bool → Boundary → Bool → Listener
in_body ones fresh at broken = record { phase = cond (ones == 5) AfterFiveOnes Inside; ones = ones; fresh = fresh; boundary = at; broken = broken }

abbrev pub go : Phase → Bool → ℕ → Bool → Boundary → Bool → Listener
go Inside bit ones fresh at broken = in_body (cond bit ((ones + 1) % 256) 0) (fresh && bit) at broken
go AfterFiveOnes false ones fresh at broken = record { phase = Inside; ones = 0; fresh = true; boundary = RemovedZero; broken = broken }
go AfterFiveOnes true ones fresh at broken = sixth fresh at broken
go Hunting true ones fresh at broken = record { phase = Hunting; ones = cond (nat_lt ones 7) (ones + 1) ones; fresh = fresh; boundary = at; broken = cond (ones == 6) true broken }
go Hunting false ones fresh at broken = record { phase = Hunting; ones = cond (ones == 6) ones 0; fresh = fresh; boundary = at; broken = broken }

-- the listener after a bit
abbrev pub next : Listener → Bool → Listener
next l bit = go l.phase bit l.ones l.fresh l.boundary l.broken

abbrev pub tell : Phase → Bool → ℕ → Sign
tell Hunting true ones = Nothing
tell Hunting false ones = cond (ones == 6) Flag Nothing
tell Inside bit ones = Bit
tell AfterFiveOnes bit ones = Nothing

-- what it says of the bit
abbrev pub sign : Listener → Bool → Sign
sign l bit = tell l.phase bit l.ones
