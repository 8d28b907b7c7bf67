use Rattle.std.proofs.Common.{◌≡◌, take, arith}
use Rattle.std.proofs.lemmas.List.{take_all}
use Rattle.line.specs.Bits.{bits_of}
use Rattle.line.proofs.Sending.{stuffs-none, stuffs-more, bits_of_more}
use Rattle.line.proofs.sender.Sender.put_octets.Goals as goal

pub loop-octet-init : goal.loop-octet-init
unfolding bits_of
loop-octet-init g c = stuffs-none g.S.Sink.takes g.met.S.Sink.nothing _ _

pub loop-octet-preserved : goal.loop-octet-preserved
loop-octet-preserved g c =
    stuffs-more g.S.Sink.takes g.met.S.Sink.more _ _ _ _ _ _ _ _ _ (bits_of_more c.args.octets.now c.loop-octet.octet-index (omega arith)) c.loop-octet.invariant
    c.put_octet.ensures.takes c.put_octet.ensures.left

pub returns : goal.returns
returns g c =
    let all : take c.loop-octet.octet-index c.args.octets.now ≡ c.args.octets.now = take_all _ _ (omega arith) in
    record { takes = rw all at c.loop-octet.invariant.takes; left = rw all at c.loop-octet.invariant.left }
