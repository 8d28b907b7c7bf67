use Rattle.std.proofs.Common.{◌≡◌, ◌++◌, sym, ap, ◌∙◌, append_assoc, rules}
use Rattle.std.proofs.Output.{has_written_append, has_written_of_eq}
use Rattle.std.proofs.lemmas.Grind.{flat_map-append}
use Rattle.std.proofs.lemmas.List.{take-append-drop}
use Rattle.std.specs.Fmt.{HasWritten}
use Rattle.words.specs.Hex.{hex_of, hex_text}
use Rattle.words.proofs.hex.DigitsDisplay.fmt.Goals as goal

pub loop-piece-preserved : goal.loop-piece-preserved
loop-piece-preserved g c = λ plain.
    let so-far = c.loop-piece.invariant plain in
    let piece = c.in-Some.piece.now in
    let behind = c.in-Some.behind.now in
    let cut = c.in-Some.ensures.cases in
    let rest : c.loop-piece.rest.now ≡ piece ++ behind = sym (take-append-drop 16 c.loop-piece.rest.now) ∙ (λ i. sym cut.0 i ++ sym cut.1 i) in
    let written : HasWritten g.W.Write.write_str_gives c.loop-piece.f (hex_text piece) c.write_piece.new.f = search rules in (
      so-far.0 ++ piece,
      so-far.1 ∙ ap (λ os. so-far.0 ++ os) rest ∙ sym (append_assoc so-far.0 piece behind),
      has_written_of_eq _ _ _ _ _ (sym (flat_map-append hex_of so-far.0 piece)) (has_written_append _ _ _ _ _ _ so-far.2 written),
    )

pub returns-clause-writes : goal.returns-clause-writes
returns-clause-writes g c = λ plain done.
    let so-far = c.loop-piece.invariant plain in
    let rest = c.loop-piece.rest.now in
    let written : HasWritten g.W.Write.write_str_gives c.loop-piece.f (hex_text rest) c.write_each.new.f = search (rules, done) in
    has_written_of_eq _ _ _ _ _ (sym (flat_map-append hex_of so-far.0 rest) ∙ ap hex_text (sym so-far.1)) (has_written_append _ _ _ _ _ _ so-far.2 written)
