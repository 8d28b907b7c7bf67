use Rattle.std.proofs.Common.{◌≡◌, ◌<◌}
use Rattle.line.specs.Bits.{tone_before}
use Rattle.std.specs.List.{AllByRecursion as All}
use Rattle.line.proofs.Bodies.{Scans}
use Rattle.line.proofs.Views.{view}
use Rattle.line.proofs.scan.body_from.Given as goal

abbrev pub invariant-loop-k : goal.invariant-loop-k
invariant-loop-k l = Scans l.burst l.count l.first l.from l.k (view l.listener) l.packer l.work × All (λ o. o < 256) l.work
    × (l.decoder.last ≡ tone_before l.burst l.k)
