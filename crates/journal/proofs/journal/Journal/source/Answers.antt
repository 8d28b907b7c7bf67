use Rattle.std.proofs.Common.{refl, ◌∙◌}
use Rattle.journal.specs.Journals.{source_to}
use Rattle.journal.proofs.Sources.{source_taken, source_left, source_kept}
use Rattle.journal.proofs.journal.Journal.source.Goals as goal
use Rattle.journal.proofs.journal.Journal.source.Goals.{in-Held+then-takes_over, in-Held+else-takes_over, in_default}

pub loop-i-init : goal.loop-i-init
unfolding source_to
loop-i-init g c = refl

pub loop-i-preserved : goal.loop-i-preserved
loop-i-preserved g c = elim c.match-read.branch [
  | in-Held+then-takes_over w ↦ w.found-is ∙ source_taken _ _ _ _ _ w.if-takes_over.ensures c.loop-i.invariant w.in-Held.ensures
  | in-Held+else-takes_over w ↦ w.found-is ∙ source_left _ _ _ _ _ w.if-takes_over.ensures c.loop-i.invariant w.in-Held.ensures
  | in_default w ↦ w.found-is ∙ source_kept _ _ _ _ _ w.in_default.not-Held c.loop-i.invariant c.read.ensures
]
