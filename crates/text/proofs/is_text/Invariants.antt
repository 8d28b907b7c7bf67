use Rattle.std.proofs.Common.{◌≡◌, length}
use Rattle.text.specs.Table.{is_text}
use Rattle.text.proofs.is_text.Given as goal

-- what is left answers as the whole does
abbrev pub invariant-loop-first : goal.invariant-loop-first
invariant-loop-first l = is_text l.rest ≡ is_text l.octets

abbrev pub decreases-loop-first : goal.decreases-loop-first
decreases-loop-first l = length l.rest
