use Rattle.journal_laws.proofs.Telling.{SoFar}
use Rattle.journal_laws.proofs.runs.run.Given as goal

abbrev pub invariant-loop-i : goal.invariant-loop-i
invariant-loop-i g l = SoFar g.S.Store.state g.S.Store.touches g.S.Store.rests l.initial.store l.calls l.initial.replies l.i l.replies l.store
