use Rattle.std.proofs.Common.{◌≡◌, ◌+◌, ◌-◌, ◌≤◌, ◌++◌, length}
use Rattle.line.specs.Bits.{tone_before}
use Rattle.line.specs.Flags.{first_flag}
use Rattle.line.proofs.Bodies.{on_from}
use Rattle.line.proofs.Listens.{behind, Sound}
use Rattle.line.proofs.Views.{view}
use Rattle.line.proofs.scan.first_flag_end.Given as goal

abbrev pub invariant-loop-k : goal.invariant-loop-k
invariant-loop-k l =
    Sound (view l.listener) × (length (behind (view l.listener)) + l.start ≤ l.k)
    × (first_flag l.start (on_from l.burst l.count l.start) ≡ first_flag (l.k - length (behind (view l.listener))) (behind (view l.listener) ++ on_from l.burst l.count l.k))
    × (l.decoder.last ≡ tone_before l.burst l.k)
