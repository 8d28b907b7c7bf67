use Rattle.std.proofs.Common.{arith}
use Rattle.sha256.proofs.Absorbing.{taken_more, cut_at}
use Rattle.sha256.proofs.state.Sha256.update.Goals as goal

pub loop-rest-preserved-in-Some : goal.loop-rest-preserved-in-Some
loop-rest-preserved-in-Some c =
    let cut = c.in-Some.ensures.cases in
    (omega (arith, cut.2, c.loop-rest.invariant.0), λ seen h. taken_more _ seen _ _ _ _ (cut_at 64 _ _ _ cut.0 cut.1) (c.loop-rest.invariant.1 seen h) c.take_block.ensures)

pub loop-rest-preserved : goal.loop-rest-preserved
loop-rest-preserved c =
    (omega (arith, c.split_at.ensures.back_len, c.loop-rest.invariant.0), λ seen h. taken_more _ seen _ _ _ _ c.split_at.ensures.by_index.0 (c.loop-rest.invariant.1 seen h) c.take_part.ensures)
