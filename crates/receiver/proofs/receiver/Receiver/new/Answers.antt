use Rattle.receiver.specs.History.{made}
use Rattle.receiver.proofs.Law.{law}
use Rattle.receiver.proofs.receiver.Receiver.new.Goals as goal

pub returns-clause-lawful : goal.returns-clause-lawful
returns-clause-lawful g c = law (made (g.S.Store.state c.args.store))
