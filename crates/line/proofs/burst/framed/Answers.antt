use Rattle.std.proofs.Common.{◌++◌, sym, ◌∙◌, subst}
use Rattle.line.specs.Bits.{bits_of}
use Rattle.line.specs.Burst.{flagged}
use Rattle.line.specs.Stuffing.{stuffed}
use Rattle.line.proofs.Whole.{whole}
use Rattle.line.proofs.burst.framed.Goals as goal

pub returns : goal.returns
returns g c =
    let h =
    whole g.S.Sink.takes g.met.S.Sink.more c.args.message.now c.args.tail.now c.new-sender.result.sink c.put_flags.new.self.sink c.put_octets.new.self.sink c.put_octets-2.new.self.sink c.put_flag.new.self.sink
    c.put_flags.new.self.left c.put_octets.new.self.left c.put_octets-2.new.self.left
    c.put_flags.ensures.takes (c.put_flags.ensures.left ∙ c.new-sender.ensures.left) c.put_octets.ensures.takes c.put_octets.ensures.left
    c.put_octets-2.ensures.takes c.put_octets-2.ensures.left c.put_flag.ensures.takes in
    let bits = flagged (stuffed (bits_of (c.args.message.now ++ c.args.tail.now))) in
    subst (λ q. g.S.Sink.takes c.args.sink bits q) (sym c.into_sink.ensures) (subst (λ p. g.S.Sink.takes p bits c.put_flag.new.self.sink) c.new-sender.ensures.sink h)
