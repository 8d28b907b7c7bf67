use Rattle.std.proofs.Common.{◌≡◌, sym, ◌∙◌}
use Rattle.hosts.proofs.Floored.{moved, goes_at, floor-at, moves_at}
use Rattle.hosts.proofs.floors.listen_under.Goals as goal

pub returns-in-Some : goal.returns-in-Some
returns-in-Some g c =
    let e = c.in-Some.is in
    let n = c.new.ensures in
    let l = c.listen_over-floored.ensures in
    let p = c.new.result in
    let q = c.listen_over-floored.result.1 in
    let k = moved (λ x. x.below) (λ x. x.epoch) g.S.Store.touches c.listen_over-floored.result.0.verdict p q l.memory in
    let back : c.into_store.result ≡ q.below = c.into_store.ensures in
    record {
      goes =
          goes_at _ _ _ _ _ _ (floor-at g.S.Store.state _ _ _ _ _ e n.epoch n.below)
          (floor-at g.S.Store.state _ _ _ _ _ e (k.floor ∙ n.epoch) (sym back)) l.goes;
      memory = moves_at g.S.Store.touches _ _ _ _ c.listen_over-floored.result.0.verdict n.below (sym back) k.store;
      work = l.work;
      sent = l.sent;
    }
