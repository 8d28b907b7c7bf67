use Rattle.std.proofs.Common.{length}
use Rattle.judging.specs.Inputs.{inputs_of}
use Rattle.receiver.proofs.Law.{law, goes_on}
use Rattle.receiver.proofs.Sent.{sent, written-is-judged}
use Rattle.receiver.proofs.receiver.Receiver.listen.Goals as goal

pub returns : goal.returns
returns g c =
    let i = inputs_of g.V.Verifier.known g.V.Verifier.good c.args.lent.now (length c.args.work.now) in
    let s = g.S.Store.state c.args.self.now.store in
    record {
      answer = c.judge.ensures.answer;
      work = c.judge.ensures.work;
      memory = c.judge.ensures.memory;
      lawful = goes_on i s _ _ c.judge.ensures.answer c.judge.ensures.leaves;
      sent = sent i s _ c.judge.ensures.answer;
      written = written-is-judged;
      law = λ t h. law h;
    }
