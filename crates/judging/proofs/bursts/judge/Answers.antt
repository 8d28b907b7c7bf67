use Rattle.std.proofs.Common.{◌≡◌, true, length, Option, sym, ap, ◌∙◌, subst}
use Rattle.line.specs.Hearing.{laid}
use Rattle.judging.specs.declared.answer.Answer.{Answer}
use Rattle.judging.specs.declared.answer.Release.{Release}
use Rattle.judging.specs.Inputs.{inputs_of}
use Rattle.judging.specs.Frames.{message_heard}
use Rattle.judging.specs.Stages.{message_questions}
use Rattle.judging.specs.Questions.{questions}
use Rattle.judging.specs.Effects.{Leaves, StoreMoves, left_at, offered}
use Rattle.judging.proofs.Judged.{judged-frame, judged-none, none_moves, quiet-unheard, refused-no_frame, refused-unheard, front-is, front_fits, front-first, front-leaves, front-left}
use Rattle.judging.proofs.bursts.judge.Goals as goal

pub returns-in-Refused : goal.returns-in-Refused
returns-in-Refused g c =
    let i = inputs_of g.V.Verifier.known g.V.Verifier.good c.args.lent.now (length c.args.work.now) in
    let s = g.S.Store.state c.args.store.now in
    let on : s.on ≡ true = sym c.in-true.ensures in
    let r = c.hear-heard.result in
    let f = refused-no_frame r.hearing _ c.in-Refused.is in
    let j = judged-none i s c.in_default.ensures on r c.hear-heard.ensures.answer f in
    let e = c.refuse-in-Refused.ensures ∙ refused-unheard r.hearing _ r.next c.in-Refused.is in
    record {
      answer = e ∙ j.first;
      leaves = subst (λ (a : Answer). Leaves (offered (questions i s)) s a.verdict s) (sym e) j.leaves;
      memory =
          subst (λ (a : Answer). StoreMoves g.S.Store.touches c.args.store.now a.verdict c.args.store.now) (sym e)
          (none_moves i s c.in_default.ensures on r c.hear-heard.ensures.answer f g.S.Store.touches c.args.store.now);
      work = c.hear-heard.ensures.work ∙ ap (laid (length c.args.work.now)) j.octets ∙ ap (λ (a : Answer). laid (length c.args.work.now) (left_at a.verdict (message_heard i))) (sym e);
    }

pub returns-in_default-hearing-2 : goal.returns-in_default-hearing-2
returns-in_default-hearing-2 g c =
    let i = inputs_of g.V.Verifier.known g.V.Verifier.good c.args.lent.now (length c.args.work.now) in
    let s = g.S.Store.state c.args.store.now in
    let on : s.on ≡ true = sym c.in-true.ensures in
    let r = c.hear-heard.result in
    let f = c.in_default-hearing-2.not-Frame in
    let j = judged-none i s c.in_default.ensures on r c.hear-heard.ensures.answer f in
    let e = quiet-unheard r.hearing r.next c.in_default-hearing.not-Refused f in
    record {
      answer = e ∙ j.first;
      leaves = subst (λ (a : Answer). Leaves (offered (questions i s)) s a.verdict s) (sym e) j.leaves;
      memory =
          subst (λ (a : Answer). StoreMoves g.S.Store.touches c.args.store.now a.verdict c.args.store.now) (sym e)
          (none_moves i s c.in_default.ensures on r c.hear-heard.ensures.answer f g.S.Store.touches c.args.store.now);
      work = c.hear-heard.ensures.work ∙ ap (laid (length c.args.work.now)) j.octets ∙ ap (λ (a : Answer). laid (length c.args.work.now) (left_at a.verdict (message_heard i))) (sym e);
    }

pub overflow_sub-length : goal.overflow_sub-length
overflow_sub-length g c =
    let i = inputs_of g.V.Verifier.known g.V.Verifier.good c.args.lent.now (length c.args.work.now) in
    (judged-frame i (g.S.Store.state c.args.store.now) c.in_default.ensures (sym c.in-true.ensures) c.hear-heard.result c.in-Frame.length c.hear-heard.ensures.answer c.in-Frame.is).fcs

pub judge_frame-verdict-requires : goal.judge_frame-verdict-requires
judge_frame-verdict-requires g c =
    let i = inputs_of g.V.Verifier.known g.V.Verifier.good c.args.lent.now (length c.args.work.now) in
    let j = judged-frame i (g.S.Store.state c.args.store.now) c.in_default.ensures (sym c.in-true.ensures) c.hear-heard.result c.in-Frame.length c.hear-heard.ensures.answer c.in-Frame.is in
    record {
      on = sym c.in-true.ensures;
      fits = front_fits _ c.hear-heard.new.work c.in-Frame.length (length c.args.work.now) c.hear-heard.ensures.work j.long;
    }

pub returns : goal.returns
returns g c =
    let i = inputs_of g.V.Verifier.known g.V.Verifier.good c.args.lent.now (length c.args.work.now) in
    let s = g.S.Store.state c.args.store.now in
    let j = judged-frame i s c.in_default.ensures (sym c.in-true.ensures) c.hear-heard.result c.in-Frame.length c.hear-heard.ensures.answer c.in-Frame.is in
    let front = front-is _ c.hear-heard.new.work c.in-Frame.length (length c.args.work.now) c.hear-heard.ensures.work j.long j.fcs ∙ sym j.message in
    let asked = message_questions i.conditions s c.hear-heard.result.next in
    let t = g.S.Store.state c.judge_frame-verdict.new.store in
    let v = c.judge_frame-verdict.result in
    record {
      answer = front-first asked _ _ front _ (c.judge_frame-verdict.ensures.answer c.hear-heard.result.next) ∙ sym j.first;
      leaves = subst (λ (o : Option Release). Leaves o s v t) (sym j.offered) (front-leaves asked _ _ front s t v (c.judge_frame-verdict.ensures.leaves c.hear-heard.result.next));
      memory = c.judge_frame-verdict.ensures.memory;
      work = front-left _ _ _ _ _ v front c.hear-heard.auto.work c.judge_frame-verdict.ensures.work;
    }
