use Rattle.std.proofs.Common.{◌≡◌, ◌<◌, length, arith, length-take, get_or-take}
use Rattle.journal_laws.proofs.Telling.{none, step, all, run-rising, run-spared}
use Rattle.journal_laws.proofs.runs.run.Goals as goal

pub loop-i-init : goal.loop-i-init
loop-i-init g c = none g.S.Store.state g.S.Store.touches g.S.Store.rests _ _ _

pub loop-i-preserved : goal.loop-i-preserved
loop-i-preserved g c =
    let n = c.min-n.result in
    let calls = c.args.calls.now in
    let i = c.loop-i.i in
    let below : i < n = omega (arith, length-take n calls) in
    let call : i < length calls = omega (arith, c.min-n.ensures) in
    let place : i < length c.loop-i.replies = omega (arith, c.min-n.ensures) in
    step g.S.Store.state g.S.Store.touches g.S.Store.rests _ _ _ calls _ _ i _ _ _ call place (get_or-take n calls i _ below) c.loop-i.invariant c.carry_out.ensures.carries

pub returns : goal.returns
returns g c =
    let end : c.loop-i.i ≡ c.min-n.result = omega (arith, length-take c.min-n.result c.args.calls.now, c.min-n.ensures) in
    let x = all g.S.Store.state g.S.Store.touches g.S.Store.rests _ _ _ _ _ _ _ end c.min-n.ensures c.loop-i.invariant in
    record {
      ran = x;
      rising = run-rising g.S.Store.state g.S.Store.touches g.S.Store.rests _ _ _ _ _ _ x;
      spared = run-spared g.S.Store.state g.S.Store.touches g.S.Store.rests _ _ _ _ _ _ x;
    }
