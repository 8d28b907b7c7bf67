use Rattle.line.specs.Bits.{low}
use Rattle.line.proofs.Sending.{Stuffs}
use Rattle.line.proofs.sender.Sender.put_octet.Given as goal

abbrev pub invariant-loop-i : goal.invariant-loop-i
invariant-loop-i g l = Stuffs g.S.Sink.takes l.initial.self.sink l.initial.self.left (low l.i l.octet) l.self.sink l.self.left
