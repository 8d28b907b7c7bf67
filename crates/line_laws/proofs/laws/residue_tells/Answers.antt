use Rattle.line_laws.proofs.Residues.{checking_told}
use Rattle.line_laws.proofs.laws.residue_tells.Goals as goal

pub returns-clause-told : goal.returns-clause-told
returns-clause-told c = checking_told
