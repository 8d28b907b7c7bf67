use Rattle.std.proofs.Common.{◌≡◌, ℕ, List, ◌++◌, length}
use Rattle.std.specs.Fmt.{HasWritten, IsPlainFormatter}
use Rattle.words.specs.Hex.{hex_text}
use Rattle.words.proofs.hex.DigitsDisplay.fmt.Given as goal

-- the digits of what stands in front of the rest are written
abbrev pub invariant-loop-piece : goal.invariant-loop-piece
invariant-loop-piece g l =
    IsPlainFormatter l.initial.f → (done : List ℕ) × (l.self.0.now ≡ done ++ l.rest) × HasWritten g.W.Write.write_str_gives l.initial.f (hex_text done) l.f

abbrev pub decreases-loop-piece : goal.decreases-loop-piece
decreases-loop-piece g l = length l.rest
