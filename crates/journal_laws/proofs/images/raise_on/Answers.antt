use Rattle.std.proofs.Common.{sym, ap, ◌∙◌}
use Rattle.journal_laws.proofs.Imaging.{kept, raised-image}
use Rattle.journal_laws.proofs.images.raise_on.Goals as goal

pub returns : goal.returns
returns c =
    let s = c.new-store.result in
    let t = c.raise-answer.new.self in
    let k = kept (λ x. x.below.cells.image) (λ x. x.below.cells.power) (λ x. x.below.last) (λ x. x.epoch) c.raise-answer.result s t c.raise-answer.ensures.memory in
    let cells = ap (λ x. x.cells) c.new-store.ensures.below ∙ c.new-2.ensures.cells in
    let back = c.into_cells.ensures ∙ ap (λ x. x.cells) c.into_store.ensures in
    let power = ap (λ x. x.power) cells ∙ c.new.ensures.power in
    record {
      lender = c.into_image.ensures.lender ∙ ap (λ x. x.image.ghost_name) back ∙ k.lender ∙ ap (λ x. x.image.ghost_name) cells ∙ c.new.ensures.lender;
      octets = raised-image _ _ _ _ _ _ _ _ _ _ _ _ _ _ _ _ _
          c.new-store.ensures.epoch k.floor (ap (λ x. x.charge) power) (ap (λ x. x.leaves) power)
          (ap (λ x. x.on) power) (ap (λ x. x.image.now) cells ∙ c.new.ensures.image)
          (sym (c.into_image.ensures.image ∙ ap (λ x. x.image.now) back)) c.raise-answer.ensures.raises k.memory;
    }
