use Rattle.std.proofs.Common.{◌≡◌, ◌-◌, Some, rules, MatchOption}
use Rattle.std.specs.List.{range_with_len}
use Rattle.journal.specs.Journals.{first_free}
use Rattle.journal.proofs.Choosing.{chosen_either}
use Rattle.journal.proofs.journal.Journal.next_cell.Goals as goal

pub returns : goal.returns
returns g c =
    let cs = (g.C.Cells.device c.args.self.now.cells).cells in
    let f : MatchOption c.find_free.result (c.or_else.result ≡ first_free cs (range_with_len 0 (c.start-first.result - 0))) (λ k. c.or_else.result ≡ Some k) = search rules in
    chosen_either cs c.args.self.now.last _ _ c.start-first.ensures c.count-n.ensures _ _ c.find_free.ensures f
