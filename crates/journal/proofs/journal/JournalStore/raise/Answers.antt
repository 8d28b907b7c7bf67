use Rattle.journal.specs.Journals.{mark_in}
use Rattle.journal.proofs.Raising.{is-higher, full, not_outside, done-raises, cut-raises}
use Rattle.journal.proofs.journal.JournalStore.raise.Goals as goal

pub returns-in_default-clause-raises : goal.returns-in_default-clause-raises
returns-in_default-clause-raises g c =
    let d = g.C.Cells.device c.args.self.now.cells in
    let h = is-higher c.mark.result (mark_in d.cells c.args.pair) c.args.new c.mark.ensures c.if-not-is_above.ensures in
    full d c.args.self.now.last c.args.pair c.args.new c.if-not-is_on.ensures h c.in_default.ensures

pub returns-in-Outside-clause-raises : goal.returns-in-Outside-clause-raises
returns-in-Outside-clause-raises g c = absurd (not_outside (g.C.Cells.device c.args.self.now.cells) (g.C.Cells.device c.write.new.self) c.args.self.now.last c.in-Some.k c.in-Some.ensures c.in-Outside.ensures.writes)

pub returns-in-Cut-clause-raises : goal.returns-in-Cut-clause-raises
returns-in-Cut-clause-raises g c =
    let d = g.C.Cells.device c.args.self.now.cells in
    let h = is-higher c.mark.result (mark_in d.cells c.args.pair) c.args.new c.mark.ensures c.if-not-is_above.ensures in
    let w = c.in-Cut.ensures.writes in
    cut-raises d (g.C.Cells.device c.write.new.self) c.args.self.now.last c.args.pair c.args.new c.in-Some.k c.in-Some.ensures h w.0 w.1

pub returns-in-Done-clause-raises : goal.returns-in-Done-clause-raises
returns-in-Done-clause-raises g c =
    let d = g.C.Cells.device c.args.self.now.cells in
    let h = is-higher c.mark.result (mark_in d.cells c.args.pair) c.args.new c.mark.ensures c.if-not-is_above.ensures in
    done-raises d (g.C.Cells.device c.write.new.self) c.args.self.now.last c.args.pair c.args.new c.in-Some.k c.in-Some.ensures h c.in-Done.ensures.writes
