use Rattle.std.proofs.Common.{◌+◌, ◌%◌, ◌<◌, arith}
use Rattle.line.proofs.Pack.{masked}
use Rattle.line.proofs.listener.in_a_row.Goals as goal

pub returns : goal.returns
returns c =
    let x : (c.args.ones + 1) % 256 < 256 = omega arith in
    masked c.args.bit ((c.args.ones + 1) % 256) c.wrapping_neg.result c.from.result c.from.ensures c.wrapping_neg.ensures c.wrapping_neg.type_inv x
