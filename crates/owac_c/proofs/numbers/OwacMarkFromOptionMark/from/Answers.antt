use Rattle.std.proofs.Common.{Option, sym, ap, ◌∙◌}
use Rattle.marks.specs.declared.mark.Mark.{Mark}
use Rattle.owac_c.specs.Answers.{mark_as}
use Rattle.owac_c.proofs.Zeros.{mark_zero}
use Rattle.owac_c.proofs.numbers.OwacMarkFromOptionMark.from.Goals as goal

pub returns-in-None : goal.returns-in-None
returns-in-None c = mark_zero _ c.default.ensures ∙ sym (ap (λ (o : Option Mark). mark_as o) c.in-None.is)
