use Rattle.std.proofs.Common.{◌≡◌, length, drop, sym, ap, ◌∙◌, rules, arith}
use Rattle.std.proofs.lemmas.Iterator.{YieldsList-from_slice}
use Rattle.std.proofs.lemmas.Iterator.Search.{position_from_yields_List}
use Rattle.std.proofs.lemmas.List.{length-drop}
use Rattle.text.specs.Table.{is_text}
use Rattle.text.proofs.Steps.{not_ascii, ascii_count, ascii_front, found, behind}
use Rattle.text.proofs.behind_ascii.Goals as goal

pub returns : goal.returns
returns c =
    let place = position_from_yields_List not_ascii _ _ c.position.result c.position.ensures.ran (YieldsList-from_slice c.args.octets.now (search (rules))) (λ x b q h. search (rules, h)) in
    let n : c.unwrap_or-ascii.result ≡ ascii_count c.args.octets.now = c.unwrap_or-ascii.ensures ∙ found c.args.octets.now c.position.result place in
    let rest = behind c.unwrap_or-ascii.result c.args.octets.now in
    (ascii_front c.args.octets.now ∙ ap (λ k. is_text (drop k c.args.octets.now)) (sym n) ∙ ap is_text (sym rest), omega (arith, ap length rest, length-drop c.unwrap_or-ascii.result c.args.octets.now))
