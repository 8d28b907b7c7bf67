use Rattle.commands_laws.proofs.Releasing.{hands_out}
use Rattle.commands_laws.proofs.laws.command_text.Goals as goal

pub returns-clause-out : goal.returns-clause-out
returns-clause-out c = hands_out _ _ _ c.text.ensures
