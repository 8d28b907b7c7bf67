use Rattle.std.proofs.Common.{sym}
use Rattle.marks.proofs.Images.{cells-length}
use Rattle.marks.proofs.image.ImageCellsCells.count.Goals as goal

pub returns : goal.returns
returns c = sym (cells-length c.args.self.now.image.now)
