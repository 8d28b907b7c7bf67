use Rattle.std.proofs.Common.{arith}
use Rattle.line.proofs.Whole.{frame-fits}
use Rattle.line.proofs.burst.frame_length.Goals as goal

pub returns : goal.returns
returns c =
    let fits = frame-fits c.args.message.now c.args.tail.now c.requires in
    let z = c.new.ensures in
    let n = c.framed.ensures (omega arith) in
    let b = c.bits.ensures in
    omega arith
