use Rattle.std.proofs.Common.{◌∙◌}
use Rattle.journal.proofs.Choosing.{room}
use Rattle.journal.proofs.journal.JournalStore.has_room.Goals as goal

pub returns : goal.returns
returns g c = c.is_some.ensures ∙ room _ _ c.find_free.result c.count.ensures c.find_free.ensures
