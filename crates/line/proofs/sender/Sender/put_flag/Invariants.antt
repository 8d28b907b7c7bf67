use Rattle.std.proofs.Common.{◌≡◌, take}
use Rattle.line.specs.Flags.{flag}
use Rattle.line.proofs.sender.Sender.put_flag.Given as goal

abbrev pub invariant-loop-bit : goal.invariant-loop-bit
invariant-loop-bit g l = record { takes : g.S.Sink.takes l.initial.self.sink (take l.bit-index flag) l.self.sink; left : l.self.left ≡ l.initial.self.left }
