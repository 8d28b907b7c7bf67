use Rattle.hosts.proofs.Imaged.{switching_goes-on}
use Rattle.hosts.proofs.images.switch_on.Goals as goal

pub returns-clause-lawful : goal.returns-clause-lawful
returns-clause-lawful c = switching_goes-on
