use Rattle.std.proofs.Common.{set, sym, ap, ◌∙◌}
use Rattle.marks.specs.declared.mark.Cell.TheVariants.{Held, Torn as TornCell}
use Rattle.marks.specs.Device.{cells_cut}
use Rattle.marks.specs.declared.table.TableCells.{TableCells}
use Rattle.marks.specs.Table.{TableTouched}
use Rattle.marks.proofs.Tables.{one_set, one_kept}
use Rattle.marks.proofs.Spending.{spent_moves, spent_leaves, spent_cells}
use Rattle.marks.proofs.table.TableCellsCells.write.Goals as goal

pub returns-in-Old-clause-memory : goal.returns-in-Old-clause-memory
returns-in-Old-clause-memory c =
    let i = c.args.i in
    let cs = c.args.self.now.cells in
    let p = c.args.self.now.power in
    let q = c.spend-written.new.self in
    let w = c.spend-written.result.0 in
    let s = c.spend-written.ensures in
    let after = ap (λ v. cells_cut v i c.args.new cs) (sym c.in-Old.is) ∙ spent_cells w p q _ i c.args.new cs s in
    let t : TableTouched cs p (cs) q = record { leaves = spent_leaves w p q _ s; cells = one_kept cs; written = record { answer = w; place = i; new = c.args.new; after = after } } in
    spent_moves {X = TableCells} (λ s t. TableTouched s.cells s.power t.cells t.power) c.args.self.now _ w p q _ s t

pub returns-in-New-clause-memory : goal.returns-in-New-clause-memory
returns-in-New-clause-memory c =
    let i = c.args.i in
    let cs = c.args.self.now.cells in
    let p = c.args.self.now.power in
    let q = c.spend-written.new.self in
    let w = c.spend-written.result.0 in
    let s = c.spend-written.ensures in
    let after = ap (λ v. cells_cut v i c.args.new cs) (sym c.in-New.is) ∙ spent_cells w p q _ i c.args.new cs s in
    let t : TableTouched cs p (set cs i (Held c.args.new)) q = record { leaves = spent_leaves w p q _ s; cells = one_set cs i _; written = record { answer = w; place = i; new = c.args.new; after = after } } in
    spent_moves {X = TableCells} (λ s t. TableTouched s.cells s.power t.cells t.power) c.args.self.now _ w p q _ s t

pub returns-in-Torn-clause-memory : goal.returns-in-Torn-clause-memory
returns-in-Torn-clause-memory c =
    let i = c.args.i in
    let cs = c.args.self.now.cells in
    let p = c.args.self.now.power in
    let q = c.spend-written.new.self in
    let w = c.spend-written.result.0 in
    let s = c.spend-written.ensures in
    let after = ap (λ v. cells_cut v i c.args.new cs) (sym c.in-Torn.is) ∙ spent_cells w p q _ i c.args.new cs s in
    let t : TableTouched cs p (set cs i TornCell) q = record { leaves = spent_leaves w p q _ s; cells = one_set cs i _; written = record { answer = w; place = i; new = c.args.new; after = after } } in
    spent_moves {X = TableCells} (λ s t. TableTouched s.cells s.power t.cells t.power) c.args.self.now _ w p q _ s t
