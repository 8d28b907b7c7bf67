use Rattle.std.proofs.Common.{◌≡◌}
use Rattle.journal.specs.Journals.{source_to}
use Rattle.journal.proofs.journal.Journal.source.Given as goal

abbrev pub invariant-loop-i : goal.invariant-loop-i
invariant-loop-i g l = l.found ≡ source_to (g.C.Cells.device l.self.cells).cells l.pair l.i
