use Rattle.std.proofs.Common.{length}
use Rattle.judging.specs.Inputs.{inputs_of}
use Rattle.owac_c.proofs.Told.{heard}
use Rattle.owac_c.proofs.receiver_calls.listen_by.Goals as goal

pub returns : goal.returns
returns g c =
    let i = inputs_of g.V.Verifier.known g.V.Verifier.good c.args.lent.now (length c.args.work.now) in
    let h = c.listen_in-heard.ensures in
    heard i c.listen_in-heard.result _ _ _ _ _ _ _ _ c.from-kept.ensures c.into.ensures c.into-2.ensures h.heard h.work h.sent
