use Rattle.owac_c.proofs.Zeros.{pair_zero, mark_zero, command_zero}
use Rattle.owac_c.proofs.numbers.bare.Goals as goal

pub returns : goal.returns
returns c =
    λ i. record {
      kind = c.args.kind;
      refusal = c.args.refusal;
      next = c.args.next;
      length = c.default.ensures.1.1.1.0 i;
      pair = pair_zero _ c.default.ensures.1.1.1.1.0 i;
      mark = mark_zero _ c.default.ensures.1.1.1.1.1.0 i;
      command = command_zero _ c.default.ensures.1.1.1.1.1.1 i;
    }
