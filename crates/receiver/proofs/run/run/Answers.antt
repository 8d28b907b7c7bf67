use Rattle.std.proofs.Common.{◌≡◌, ◌∙◌, ◌<◌, length, arith, length-take, get_or-take}
use Rattle.receiver.proofs.Telling.{none, step, all}
use Rattle.receiver.proofs.run.run.Goals as goal

pub loop-i-init : goal.loop-i-init
loop-i-init g c = none g.S.Store.state g.S.Store.touches g.S.Store.rests g.V.Verifier.known g.V.Verifier.good _ _ _ _

pub loop-i-preserved : goal.loop-i-preserved
loop-i-preserved g c =
    let n = c.min-n.result in
    let calls = c.args.calls.now in
    let i = c.loop-i.i in
    let below : i < n = omega (arith, length-take n calls) in
    let call : i < length calls = omega (arith, c.min-n.ensures) in
    let place : i < length c.loop-i.replies = omega (arith, c.min-n.ensures) in
    step g.S.Store.state g.S.Store.touches g.S.Store.rests g.V.Verifier.known g.V.Verifier.good _ _ _ _ _ _ calls _ _ i _ _ _ call place (c.call-item.is ∙ get_or-take n calls i _ below) c.loop-i.invariant c.carry_out.ensures

pub returns : goal.returns
returns g c =
    let end : c.loop-i.i ≡ c.min-n.result = omega (arith, length-take c.min-n.result c.args.calls.now, c.min-n.ensures) in
    all g.S.Store.state g.S.Store.touches g.S.Store.rests g.V.Verifier.known g.V.Verifier.good _ _ _ _ _ _ _ _ _ end c.min-n.ensures c.loop-i.invariant
