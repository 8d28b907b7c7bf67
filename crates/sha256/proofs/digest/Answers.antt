use Rattle.sha256.proofs.Absorbing.{length-padded}
use Rattle.sha256.proofs.Exact.{length-exact}
use Rattle.sha256.proofs.digest.Goals as goal

pub returns : goal.returns
returns c = record { is = c.finish.ensures.is _ (c.update.ensures _ c.new-hasher.ensures); length = c.finish.ensures.length; exact = length-exact; whole = length-padded }
