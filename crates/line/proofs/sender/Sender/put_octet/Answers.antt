use Rattle.std.proofs.Common.{◌≡◌, ◌∷◌, [], ◌++◌, sym, ap, ◌∙◌, arith}
use Rattle.line.specs.Bits.{low}
use Rattle.line.proofs.Sending.{stuffs-none, stuffs-more, low-more}
use Rattle.line.proofs.sender.Sender.put_octet.Goals as goal

pub loop-i-init : goal.loop-i-init
unfolding low
loop-i-init g c = stuffs-none g.S.Sink.takes g.met.S.Sink.nothing _ _

pub loop-i-preserved : goal.loop-i-preserved
loop-i-preserved g c =
    let more = low-more c.loop-i.i c.args.octet ∙ ap (λ b. low c.loop-i.i c.args.octet ++ b ∷ []) (sym c.bit.ensures) in
    stuffs-more g.S.Sink.takes g.met.S.Sink.more _ _ _ _ _ _ _ _ _ more c.loop-i.invariant c.put_stuffed.ensures.takes c.put_stuffed.ensures.left

pub returns : goal.returns
returns g c = let e : c.loop-i.i ≡ 8 = omega arith in record { takes = rw e at c.loop-i.invariant.takes; left = rw e at c.loop-i.invariant.left }
