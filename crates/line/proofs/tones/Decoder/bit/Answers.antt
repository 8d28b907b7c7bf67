use Rattle.std.proofs.Common.{sym, ◌∙◌}
use Rattle.line.proofs.Decoding.{decoded-is, before-next}
use Rattle.line.proofs.tones.Decoder.bit.Goals as goal

pub returns : goal.returns
returns c =
    record {
      bit = decoded-is _ c.args.k _ _ c.tone-tone.ensures c.requires.follows;
      last = c.tone-tone.ensures ∙ sym (before-next _ c.args.k);
    }
