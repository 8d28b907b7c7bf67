use Rattle.std.proofs.Common.{ℕ, List, length, ap, ◌∙◌}
use Rattle.verdicts.specs.Tags.{is_listed, is_tagged}
use Rattle.judging.specs.declared.answer.Listening.{Listening}
use Rattle.judging.specs.Inputs.{Inputs, inputs_by}
use Rattle.owac_c.proofs.Told.{heard-at}
use Rattle.owac_c.proofs.receiver_calls.owac_listen_by_tags.Goals as goal

pub returns : goal.returns
returns c =
    let inputs : List ℕ → Listening → Inputs = λ sheet l. inputs_by is_listed is_tagged sheet c.args.burst.now l c.args.catalog.now (length c.args.work.now) in
    heard-at _ _ _ _ _ _ _ _ (ap (λ (sheet : List ℕ). inputs sheet c.into.result) c.new.ensures.is ∙ ap (λ (l : Listening). inputs c.args.sheet.now l) c.into.ensures) c.listen_by.ensures
