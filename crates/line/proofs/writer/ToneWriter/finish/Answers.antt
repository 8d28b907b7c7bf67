use Rattle.std.proofs.Common.{refl, arith}
use Rattle.line.proofs.Sending.{fills_none, fills_more, filled}
use Rattle.line.proofs.writer.ToneWriter.finish.Goals as goal

pub loop-self-init : goal.loop-self-init
loop-self-init c = fills_none _

pub loop-self-smaller : goal.loop-self-smaller
loop-self-smaller c = let k = c.loop-self.self.packer.ok.0 in omega (arith, c.push.ensures.fill)

pub loop-self-preserved : goal.loop-self-preserved
loop-self-preserved c = fills_more c.args.self.now c.loop-self.self _ c.loop-self.invariant (omega arith) refl c.push.auto.out c.push.ensures.bits c.push.ensures.behind c.push.ensures.count refl

pub returns : goal.returns
returns c =
    let d = filled c.args.self.now c.loop-self.self c.loop-self.invariant (omega arith) in
    record { lender = c.loop-self.invariant.lender; wrote = λ h. (d h).0; behind = λ h. (d h).1 }
