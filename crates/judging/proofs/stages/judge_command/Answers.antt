use Rattle.std.proofs.Common.{sym}
use Rattle.judging.proofs.Commanding.{command_leaves}
use Rattle.judging.proofs.stages.judge_command.Goals as goal

pub returns-clause-leaves : goal.returns-clause-leaves
returns-clause-leaves g c =
    command_leaves _ _ (g.S.Store.state c.args.store.now) _ c.args.message.view _ c.in-Some.command c.raise.result (g.S.Store.state c.raise.new.store) _ _ (sym c.in-Ok.ensures) (sym c.in-Some.ensures) c.pair_of.ensures c.requires.mark c.raise.ensures.leaves
