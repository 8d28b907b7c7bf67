use Rattle.std.proofs.Common.{◌≡◌, sym, refl, ◌∙◌, subst, arith}
use Rattle.line.specs.Burst.{flags}
use Rattle.line.specs.Flags.{flag}
use Rattle.line.proofs.Sending.{flags-more}
use Rattle.line.proofs.sender.Sender.put_flags.Goals as goal

pub loop-i-init : goal.loop-i-init
unfolding flags
loop-i-init g c = record { takes = g.met.S.Sink.nothing _; left = refl }

pub loop-i-preserved : goal.loop-i-preserved
loop-i-preserved g c =
    let more = g.met.S.Sink.more _ _ _ (flags c.loop-i._i) flag c.loop-i.invariant.takes c.put_flag.ensures.takes in
    record { takes = subst (λ bits. g.S.Sink.takes c.args.self.now.sink bits c.put_flag.new.self.sink) (sym (flags-more c.loop-i._i)) more; left = c.put_flag.ensures.left ∙ c.loop-i.invariant.left }

pub returns : goal.returns
returns g c =
    let e : c.loop-i._i ≡ c.args.n = omega arith in
    record { takes = rw e at c.loop-i.invariant.takes; left = c.loop-i.invariant.left }
