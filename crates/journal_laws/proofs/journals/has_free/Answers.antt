use Rattle.journal_laws.proofs.Placing.{free_decides}
use Rattle.journal_laws.proofs.journals.has_free.Goals as goal

pub returns : goal.returns
returns g c = free_decides (g.C.Cells.device c.args.journal.now.cells).cells _ c.has_room.ensures
