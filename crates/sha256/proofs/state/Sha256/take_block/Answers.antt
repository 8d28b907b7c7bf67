use Rattle.std.proofs.Common.{refl, arith}
use Rattle.sha256.proofs.Absorbing.{holds_block, no_items}
use Rattle.sha256.proofs.state.Sha256.take_block.Goals as goal

pub returns : goal.returns
returns c = λ seen h. holds_block c.args.self.now _ seen c.args.block.now c.requires (omega arith) (no_items _ c.requires) refl c.compress-self.ensures h
