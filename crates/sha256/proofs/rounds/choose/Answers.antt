use Rattle.sha256.proofs.Choosing.{quick-choice}
use Rattle.sha256.proofs.rounds.choose.Goals as goal

pub returns : goal.returns
returns c = quick-choice c.args.x c.args.y c.args.z c.ranges.x.fits c.ranges.z.fits
