use Rattle.sha256.specs.Sha256.{round, t1_of, t2_of, ◌⊞◌}
use Rattle.sha256.proofs.rounds.step.Goals as goal

pub returns : goal.returns
unfolding round t1_of t2_of ◌⊞◌
returns c = cc
