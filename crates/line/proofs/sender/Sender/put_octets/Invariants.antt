use Rattle.std.proofs.Common.{take}
use Rattle.line.specs.Bits.{bits_of}
use Rattle.line.proofs.Sending.{Stuffs}
use Rattle.line.proofs.sender.Sender.put_octets.Given as goal

abbrev pub invariant-loop-octet : goal.invariant-loop-octet
invariant-loop-octet g l = Stuffs g.S.Sink.takes l.initial.self.sink l.initial.self.left (bits_of (take l.octet-index l.octets)) l.self.sink l.self.left
