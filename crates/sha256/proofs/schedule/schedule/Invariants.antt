use Rattle.std.proofs.Common.{◌≡◌, length, take}
use Rattle.sha256.specs.Sha256.{scheduled}
use Rattle.sha256.proofs.schedule.schedule.Given as goal

abbrev pub invariant-first : goal.invariant-first
invariant-first l = (length l.w ≡ 64) × (take l.t l.w ≡ scheduled l.block l.t)

abbrev pub invariant-rest : goal.invariant-rest
invariant-rest l = (length l.w ≡ 64) × (take l.t l.w ≡ scheduled l.block l.t)
