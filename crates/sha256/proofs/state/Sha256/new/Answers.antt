use Rattle.std.proofs.Common.{ap, length, refl, arith}
use Rattle.sha256.specs.Sha256.{hashed, initial}
use Rattle.sha256.proofs.state.Sha256.new.Goals as goal

pub returns : goal.returns
unfolding hashed initial
returns c = record { blocks = 0; count = omega (arith, ap length c.new.ensures); total = refl; hash = refl; rest = c.new.ensures }
