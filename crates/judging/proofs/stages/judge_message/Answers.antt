use Rattle.std.proofs.Common.{ℕ, sym}
use Rattle.judging.specs.Inputs.{conditions_of}
use Rattle.judging.proofs.Reading.{read-stops, refused-leaves, refused_moves, at-octets, goes_first, goes-leaves}
use Rattle.judging.proofs.stages.judge_message.Goals as goal

pub returns-in-Err : goal.returns-in-Err
returns-in-Err g c =
    let k = read-stops (conditions_of g.V.Verifier.known g.V.Verifier.good c.args.lent.now) (g.S.Store.state c.args.store.now) in
    let e = c.in-Err.refusal in
    record {
      answer = λ next. sym (k next c.args.octets.now e c.in-Err.ensures.is).first;
      leaves = λ next. refused-leaves _ _ e (k next c.args.octets.now e c.in-Err.ensures.is).uncut;
      memory = refused_moves g.S.Store.touches _ e (k 0 c.args.octets.now e c.in-Err.ensures.is).uncut;
    }

pub returns : goal.returns
returns g c =
    let k = λ (next : ℕ). at-octets (conditions_of g.V.Verifier.known g.V.Verifier.good c.args.lent.now) (g.S.Store.state c.args.store.now) next c.args.octets.now _ _ c.in-Ok.ensures.octets c.in-Ok.ensures.is in
    record {
      answer = λ next. goes_first _ _ _ (k next) (c.judge_fields.ensures.answer next);
      leaves = λ next. goes-leaves _ _ (g.S.Store.state c.args.store.now) (g.S.Store.state c.judge_fields.new.store) c.judge_fields.result (k next) (c.judge_fields.ensures.leaves next);
      memory = c.judge_fields.ensures.memory;
    }
