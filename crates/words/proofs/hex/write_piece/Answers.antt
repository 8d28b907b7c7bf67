use Rattle.std.proofs.Common.{◌≡◌, length, ◌∙◌, sym, [], rules, arith}
use Rattle.std.proofs.Output.{has_written_of_eq}
use Rattle.words.proofs.Spelling.{pairs_hex}
use Rattle.words.proofs.hex.write_piece.Goals as goal

pub returns : goal.returns
returns g c = λ plain done.
    let whole : length c.args.piece.now ≡ 16 = search rules in
    let same : c.in-Ok.digits.now ≡ c.as_flattened.result.now = search rules in
    let items = c.map-pairs.ensures.items in
    let hex = c.as_flattened.ensures.value ∙ pairs_hex c.args.piece.now _ (items.long ∙ sym whole) (λ i l. let call = items.at i 0 [] (omega (arith, l, whole)) in call.2.met) in
    has_written_of_eq _ _ _ _ _ (same ∙ hex) (c.write_str.ensures.writes plain done)
