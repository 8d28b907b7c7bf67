use Rattle.std.proofs.Common.{◌≡◌, false}
use Rattle.items.specs.Keys.{has}
use Rattle.items.specs.Stored.{keys_of}
use Rattle.items.proofs.types.Keys.seen.Given as goal

abbrev pub invariant-loop-i : goal.invariant-loop-i
invariant-loop-i l = has (keys_of l.self.octets.now l.self.starts l.self.ends l.i) l.key ≡ false
