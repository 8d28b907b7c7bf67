use Rattle.std.proofs.Common.{false, [], ◌∷◌, sym, subst}
use Rattle.line.proofs.Sending.{one-off, one_fifth, one_on}
use Rattle.line.proofs.sender.Sender.put_stuffed.Goals as goal

pub returns-then-not-bit : goal.returns-then-not-bit
returns-then-not-bit g c =
    let o = one-off c.args.self.now.left c.args.bit c.if-not-bit.true in
    record { takes = subst (λ bits. g.S.Sink.takes c.args.self.now.sink bits c.put.new.self) (sym o.0) c.put.ensures; left = sym o.1 }

pub returns-then-self-eq0 : goal.returns-then-self-eq0
returns-then-self-eq0 g c =
    let o = one_fifth c.args.self.now.left c.args.bit c.if-not-bit.false c.if-self-eq0.true in
    let both = g.met.S.Sink.more c.args.self.now.sink c.put.new.self c.put-then-self-eq0.new.self (c.args.bit ∷ []) (false ∷ []) c.put.ensures c.put-then-self-eq0.ensures in
    record { takes = subst (λ bits. g.S.Sink.takes c.args.self.now.sink bits c.put-then-self-eq0.new.self) (sym o.0) both; left = sym o.1 }

pub returns-else-self-eq0 : goal.returns-else-self-eq0
returns-else-self-eq0 g c =
    let o = one_on c.args.self.now.left c.args.bit c.if-not-bit.false c.if-self-eq0.false in
    record { takes = subst (λ bits. g.S.Sink.takes c.args.self.now.sink bits c.put.new.self) (sym o.0) c.put.ensures; left = sym o.1 }
