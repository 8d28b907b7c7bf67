use Rattle.receiver.proofs.Law.{switch-goes-on}
use Rattle.receiver.proofs.receiver.Receiver.switch_on.Goals as goal

pub returns-clause-lawful : goal.returns-clause-lawful
returns-clause-lawful g c = switch-goes-on _ _ _ c.switch_on.ensures.on
