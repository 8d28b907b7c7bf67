use Rattle.std.proofs.Common.{◌*◌, ◌≤◌, ◌++◌, length, sym, ap, arith}
use Rattle.line.specs.Bits.{bits_of}
use Rattle.line.specs.Burst.{flagged}
use Rattle.line.specs.Stuffing.{stuffed}
use Rattle.line.specs.Sending.{count}
use Rattle.line.proofs.Whole.{written}
use Rattle.line.proofs.burst.send.Goals as goal

pub returns-clause-written : goal.returns-clause-written
returns-clause-written c h =
    let room = c.framed-writer.ensures.room in
    let empty = c.new.ensures.empty in
    let a = empty.0 in
    let b = empty.1 in
    let o = c.new.ensures.out in
    let l = ap length o in
    let s = c.framed-writer.ensures.sends (omega arith) in
    let n : count c.framed-writer.result ≤ 8 * length c.framed-writer.result.out.now = let k = s.counts in omega arith in
    written (flagged (stuffed (bits_of (c.args.message.now ++ c.args.tail.now)))) c.new.result c.framed-writer.result _ (sym o) c.into_octets.ensures.octets c.new.ensures.tone a b s (c.finish.ensures.wrote n) (c.finish.ensures.behind n)
