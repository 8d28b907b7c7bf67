use Rattle.std.proofs.Common.{◌≡◌, refl, rules}
use Rattle.std.specs.Slice.Iter.{iter_rest}
use Rattle.std.specs.Iterator.Adapters.{zip_first, zip_second}
use Rattle.std.proofs.lemmas.Slice.Zip.{zip_turn}
use Rattle.sha256.specs.Sha256.{rounds, constants}
use Rattle.sha256.proofs.Turns.{round_more}
use Rattle.sha256.proofs.rounds.steps.Goals as goal

pub loop-k-init : goal.loop-k-init
unfolding rounds
loop-k-init c = refl

pub loop-k-preserved : goal.loop-k-preserved
unfolding constants
loop-k-preserved c =
    let first : iter_rest (zip_first c.into_iter-k-iterator.result) ≡ constants = search rules in
    let second : iter_rest (zip_second c.into_iter-k-iterator.result) ≡ c.args.w.now = search rules in
    let turn = zip_turn constants c.args.w.now c.loop-k.yielded c.into_iter-k-iterator.result c.loop-k.k-iterator c.next.new.self c.next.result first second c.loop-k.yielded_by _ c.in-Some.is c.next.ensures.steps in
    round_more c.loop-k.yielded _ c.args.w.now c.args.first c.loop-k.v _ c.in-Some.k.now c.in-Some.word.now c.loop-k.invariant (turn.2 0) (turn.3 0) c.step-v.ensures
