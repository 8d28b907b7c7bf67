use Rattle.std.proofs.Common.{ℕ, length, take, replicate, sym, ap, ◌∙◌}
use Rattle.std.proofs.lemmas.List.{take_rest}
use Rattle.line.specs.Hearing.{laid}
use Rattle.judging.specs.Inputs.{conditions_of}
use Rattle.judging.specs.Stages.{message_questions}
use Rattle.judging.specs.Effects.{left_at}
use Rattle.judging.proofs.Judged.{cleared_behind, whole-front, front-first, front-leaves}
use Rattle.judging.proofs.bursts.judge_frame.Goals as goal

pub returns-in-Released : goal.returns-in-Released
returns-in-Released g c =
    let asked = λ (next : ℕ). message_questions (conditions_of g.V.Verifier.known g.V.Verifier.good c.args.lent.now) (g.S.Store.state c.args.store.now) next in
    let front = whole-front c.args.work.now c.args.size in
    let judged = c.judge_message-verdict in
    record {
      answer = λ next. front-first (asked next) _ _ front _ (judged.ensures.answer next);
      leaves = λ next. front-leaves (asked next) _ _ front (g.S.Store.state c.args.store.now) (g.S.Store.state judged.new.store) judged.result (judged.ensures.leaves next);
      memory = judged.ensures.memory;
      work =
          cleared_behind c.args.work.now c.fill.new.self c.args.size c.requires.fits (c.fill.ensures.after (λ y h. h) ∙ ap (λ t. replicate (length t) 0) (take_rest c.args.work.now c.args.size))
          ∙ sym (ap (λ v. laid (length c.args.work.now) (left_at v (take c.args.size c.args.work.now))) c.in-Released.is);
    }
