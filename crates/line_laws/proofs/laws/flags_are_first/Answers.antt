use Rattle.line_laws.proofs.Openings.{opening_told}
use Rattle.line_laws.proofs.Firsts.{closing-told}
use Rattle.line_laws.proofs.laws.flags_are_first.Goals as goal

pub returns-clause-told : goal.returns-clause-told
returns-clause-told c = λ bits start b. (opening_told bits start b, closing-told bits start b)
