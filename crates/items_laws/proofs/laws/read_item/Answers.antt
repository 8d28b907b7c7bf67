use Rattle.std.proofs.Common.{arith}
use Rattle.items_laws.proofs.Passing.{passes-exactly}
use Rattle.items_laws.proofs.laws.read_item.Goals as goal

pub returns : goal.returns
returns c = record { is = c.read.ensures; exactly = passes-exactly c.args.octets.now (λ i. omega (arith, c.type_inv.octets i)) c.read.result c.read.ensures }
