use Rattle.journal_laws.proofs.Marks.{law}
use Rattle.journal_laws.proofs.runs.carry_out.Goals as goal

pub returns-in-Raise-clause-law : goal.returns-in-Raise-clause-law
returns-in-Raise-clause-law g c = λ s t run. law run

pub returns-in-SwitchOn-clause-law : goal.returns-in-SwitchOn-clause-law
returns-in-SwitchOn-clause-law g c = λ s t run. law run
