use Rattle.receiver.proofs.Telling.{SoFar}
use Rattle.receiver.proofs.run.run.Given as goal

abbrev pub invariant-loop-i : goal.invariant-loop-i
invariant-loop-i g l =
    SoFar g.S.Store.state g.S.Store.touches g.S.Store.rests g.V.Verifier.known g.V.Verifier.good l.initial.receiver.store l.initial.buffer l.calls l.initial.replies l.i l.replies l.receiver.store l.buffer
