use Rattle.std.proofs.Common.{◌≡◌, rules, MatchOption}
use Rattle.marks.specs.declared.mark.Cell.TheVariants.{Torn}
use Rattle.marks.specs.Octets.{cell_of}
use Rattle.marks.proofs.Images.{cell_got}
use Rattle.marks.proofs.image.ImageCellsCells.read.Goals as goal

pub returns : goal.returns
returns c =
    let f : MatchOption c.get.result (c.map_or.result ≡ Torn) (λ b. c.map_or.result ≡ cell_of b.now) = search rules in
    cell_got _ _ _ c.get.result _ c.as_chunks.ensures.front c.as_chunks.ensures.front_len c.get.ensures.lookup f
