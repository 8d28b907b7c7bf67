use Rattle.std.proofs.Common.{◌≡◌}
use Rattle.line.specs.Fcs.{shifts}
use Rattle.line.proofs.check.step.Given as goal

abbrev pub invariant-loop-i : goal.invariant-loop-i
invariant-loop-i l = l.r ≡ shifts l._i l.initial.r
