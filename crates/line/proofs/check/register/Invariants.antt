use Rattle.std.proofs.Common.{◌≡◌, take, fold}
use Rattle.line.specs.Fcs.{step}
use Rattle.line.proofs.check.register.Given as goal

abbrev pub invariant-loop-octet : goal.invariant-loop-octet
invariant-loop-octet l = l.r ≡ fold step 65535 (take l.octet-index l.octets)
