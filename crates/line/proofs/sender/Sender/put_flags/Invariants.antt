use Rattle.std.proofs.Common.{◌≡◌}
use Rattle.line.specs.Burst.{flags}
use Rattle.line.proofs.sender.Sender.put_flags.Given as goal

abbrev pub invariant-loop-i : goal.invariant-loop-i
invariant-loop-i g l = record { takes : g.S.Sink.takes l.initial.self.sink (flags l._i) l.self.sink; left : l.self.left ≡ l.initial.self.left }
