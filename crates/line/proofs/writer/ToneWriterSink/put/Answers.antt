use Rattle.std.proofs.Common.{refl, arith}
use Rattle.line.specs.Burst.{tones, last_tone}
use Rattle.line.proofs.writer.ToneWriterSink.put.Goals as goal

pub returns : goal.returns
unfolding tones last_tone
returns c =
    record {
      lender = refl;
      room = c.push.auto.out;
      sends = λ h. record { wrote = c.push.ensures.bits (omega arith); last = refl; behind = c.push.ensures.behind; counts = c.push.ensures.count (omega arith) };
    }
