use Rattle.line_laws.proofs.Unstuffed.{unstuffing_told}
use Rattle.line_laws.proofs.laws.stuffing_is_undone.Goals as goal

pub returns-clause-told : goal.returns-clause-told
returns-clause-told c = unstuffing_told
