use Rattle.journal_laws.proofs.Placing.{first_free_lem, free_law}
use Rattle.journal_laws.proofs.journals.find_next.Goals as goal

pub returns : goal.returns
returns g c =
    let x = first_free_lem _ _ _ c.next_cell.ensures in
    record { first = x.1; safe = x.0; free = free_law }
