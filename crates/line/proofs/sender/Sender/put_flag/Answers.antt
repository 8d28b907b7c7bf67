use Rattle.std.proofs.Common.{◌≡◌, false, take, sym, refl, subst, arith}
use Rattle.std.proofs.lemmas.List.{take_more, take_all}
use Rattle.line.specs.Flags.{flag}
use Rattle.line.proofs.sender.Sender.put_flag.Goals as goal

pub loop-bit-init : goal.loop-bit-init
loop-bit-init g c = record { takes = g.met.S.Sink.nothing _; left = refl }

pub loop-bit-preserved : goal.loop-bit-preserved
loop-bit-preserved g c =
    let more = g.met.S.Sink.more _ _ _ (take c.loop-bit.bit-index flag) _ c.loop-bit.invariant.takes c.put.ensures in
    record { takes = subst (λ bits. g.S.Sink.takes c.args.self.now.sink bits c.put.new.self) (sym (take_more flag c.loop-bit.bit-index false (omega arith))) more; left = c.loop-bit.invariant.left }

pub returns : goal.returns
returns g c =
    let all : take c.loop-bit.bit-index flag ≡ flag = take_all _ _ (omega arith) in
    record { takes = rw all at c.loop-bit.invariant.takes; left = c.loop-bit.invariant.left }
