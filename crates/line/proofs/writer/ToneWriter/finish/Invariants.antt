use Rattle.std.proofs.Common.{◌-◌, ◌%◌}
use Rattle.line.proofs.Sending.{Filling}
use Rattle.line.proofs.writer.ToneWriter.finish.Given as goal

abbrev pub invariant-loop-self : goal.invariant-loop-self
invariant-loop-self l = Filling l.initial.self l.self

abbrev pub decreases-loop-self : goal.decreases-loop-self
decreases-loop-self l = (8 - l.self.packer.fill) % 8
