use Rattle.std.proofs.Common.{◌≡◌, ◌-◌, ◌≤◌, length, take, arith}
use Rattle.std.proofs.lemmas.List.{length-take-le}
use Rattle.receiver.proofs.Telling.{hears}
use Rattle.receiver.proofs.run.carry_out.Goals as goal

pub returns-in-Listen : goal.returns-in-Listen
returns-in-Listen g c =
    let fits : c.min-n.result - 0 ≤ length c.args.buffer.now = omega (arith, c.min-n.ensures) in
    let lent : length (take (c.min-n.result - 0) c.args.buffer.now) ≡ c.min-n.result = omega (arith, length-take-le (c.min-n.result - 0) c.args.buffer.now fits) in
    hears g.S.Store.state g.S.Store.touches g.S.Store.rests g.V.Verifier.known g.V.Verifier.good c.args.receiver.now.store c.listen.new.self.store c.args.buffer.now
    c.in-Listen.lent c.in-Listen.work c.listen.result _ _ c.min-n.result c.listen.new.work
    c.in-Listen.is c.min-n.ensures lent c.listen.ensures.lawful.step c.listen.ensures.memory c.listen.ensures.work
