use Rattle.std.proofs.Common.{length, sym, ap, ◌∙◌}
use Rattle.judging.specs.Inputs.{inputs_of}
use Rattle.hosts.proofs.Imaged.{left, power_at, supply-at, listened-at}
use Rattle.hosts.proofs.images.listen_on.Goals as goal

pub returns : goal.returns
returns g c =
    let i = inputs_of g.V.Verifier.known g.V.Verifier.good c.args.lent.now (length c.args.work.now) in
    let j = c.resume-journal.result in
    let k = c.listen_under-journal.result.1 in
    let a = c.listen_under-journal.result.0 in
    let l = left (λ x. x.cells.image) (λ x. x.cells.power) (λ x. x.last) c.args.supply.floor a.verdict j k c.listen_under-journal.ensures.memory in
    let made = c.resume-journal.ensures.cells in
    let given = c.new-cells.ensures in
    let back = c.into_cells-cells.ensures in
    let power = ap (λ x. x.power) made ∙ given.power in
    let before = supply-at _ _ _ _ c.args.supply.floor power c.resume-journal.ensures.last in
    let kept =
    power_at _ _ (sym (c.is_on.ensures ∙ ap (λ x. x.power.on) back)) (sym (c.charge.ensures ∙ ap (λ x. x.power.charge) back)) (l.same ∙ ap (λ x. x.leaves) power) in
    let after = supply-at _ _ _ _ c.args.supply.floor kept (sym c.written_last-last.ensures) in
    record {
      lender = c.into_image.ensures.lender ∙ ap (λ x. x.image.ghost_name) back ∙ l.lender ∙ ap (λ x. x.image.ghost_name) made ∙ given.lender;
      heard =
          listened-at i a _ _ _ _ _ _ _ _ (ap (λ x. x.image.now) made ∙ given.image) before (sym (c.into_image.ensures.image ∙ ap (λ x. x.image.now) back)) after
          (record { goes = c.listen_under-journal.ensures.goes; memory = l.image });
      work = c.listen_under-journal.ensures.work;
      sent = c.listen_under-journal.ensures.sent;
    }
