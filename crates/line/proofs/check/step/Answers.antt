use Rattle.std.proofs.Common.{◌≡◌, refl, arith}
use Rattle.line.specs.Fcs.{shifts, step}
use Rattle.line.proofs.Register.{more-odd, more_even}
use Rattle.line.proofs.check.step.Goals as goal
use Rattle.line.proofs.check.step.Goals.{then-r-eq1, else-r-eq1}

pub loop-i-init : goal.loop-i-init
unfolding shifts
loop-i-init c = refl

pub loop-i-preserved : goal.loop-i-preserved
loop-i-preserved c =
    elim c.if-r-eq1.branch [
      | then-r-eq1 w ↦ more-odd c.loop-i._i _ c.loop-i.r c.if-r-eq1.r c.loop-i.invariant w.if-r-eq1.true w.r-is
      | else-r-eq1 w ↦ more_even c.loop-i._i _ c.loop-i.r c.if-r-eq1.r c.loop-i.invariant w.if-r-eq1.false w.r-is
    ]

pub returns : goal.returns
unfolding step
returns c = let e : c.loop-i._i ≡ 8 = omega arith in rw e at c.loop-i.invariant
