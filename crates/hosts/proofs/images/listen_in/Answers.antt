use Rattle.std.proofs.Common.{length, refl, rules}
use Rattle.judging.specs.Inputs.{inputs_of}
use Rattle.hosts.proofs.Imaged.{listened-at}
use Rattle.hosts.proofs.images.listen_in.Goals as goal

pub returns : goal.returns
returns g c =
    let i = inputs_of g.V.Verifier.known g.V.Verifier.good c.args.lent.now (length c.args.work.now) in
    let h = c.listen_on-back.ensures in
    record { heard = listened-at i c.listen_on-back.result.0 _ _ _ _ _ _ _ _ refl refl (search rules) refl h.heard; work = h.work; sent = h.sent }
