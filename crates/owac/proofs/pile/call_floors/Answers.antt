use Rattle.std.proofs.Common.{◌≡◌, ◌≤◌, length, ap, ◌∙◌, rules}
use Rattle.std.specs.Prelude.{slice_get}
use Rattle.owac.proofs.Floored.{item_copied, by_three}
use Rattle.owac.proofs.pile.call_floors.Goals as goal

pub returns-clause-replies : goal.returns-clause-replies
returns-clause-replies g c =
    let epochs = c.args.floors.now.items in
    let few : length c.args.floors.now.items ≤ 3 = search rules in
    let first : c.copied.result ≡ slice_get c.args.floors.now.items 0 = search rules in
    let same = c.as_slice-epochs.ensures.value in
    let second : c.copied-2.result ≡ slice_get c.args.floors.now.items 1 =
    c.copied-2.ensures ∙ item_copied _ 1 _ c.get.ensures.lookup ∙ ap (λ xs. slice_get xs 1) same in
    let third : c.copied-3.result ≡ slice_get c.args.floors.now.items 2 =
    c.copied-3.ensures ∙ item_copied _ 2 _ c.get-2.ensures.lookup ∙ ap (λ xs. slice_get xs 2) same in
    by_three g.S.Store.state g.S.Store.touches g.S.Store.rests _ c.args.call c.call_store-high.result.1
    epochs c.copied.result c.copied-2.result c.copied-3.result c.args.store c.into_store.result
    c.new-low.result c.into_store-low.result c.new-middle.result c.into_store-middle.result c.new-high.result c.call_store-high.result.0
    few first second third
    c.new-low.ensures.under c.new-low.ensures.height c.new-middle.ensures.under c.new-middle.ensures.height c.new-high.ensures.under c.new-high.ensures.height
    c.into_store-middle.ensures c.into_store-low.ensures c.into_store.ensures
    c.call_store-high.ensures.replies c.call_store-high.ensures.memory
