use Rattle.std.proofs.Common.{◌≡◌, vec_items, vec_len}
use Rattle.words.specs.Hex.{SpeltTo}
use Rattle.words.proofs.hex.spelt.Given as goal

abbrev pub invariant-loop-high : goal.invariant-loop-high
invariant-loop-high l = (vec_len l.found ≡ l.high-index) × SpeltTo l.digits (vec_items l.found) l.high-index
