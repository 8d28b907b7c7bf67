use Rattle.std.proofs.Common.{◌≡◌, length}
use Rattle.sha256.specs.Sha256.{rounds}
use Rattle.sha256.proofs.rounds.steps.Given as goal

abbrev pub invariant-loop-k : goal.invariant-loop-k
invariant-loop-k l = l.v ≡ rounds (length l.yielded) l.w l.initial.v
