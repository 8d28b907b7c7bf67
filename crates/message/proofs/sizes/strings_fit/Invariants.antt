use Rattle.std.proofs.Common.{◌≡◌, ◌-◌}
use Rattle.message.specs.Sizes.{strings_fit}
use Rattle.message.proofs.sizes.strings_fit.Given as goal

-- the heads that are left answer as all do
abbrev pub invariant-loop-head : goal.invariant-loop-head
invariant-loop-head l = strings_fit (1024 - l._head) l.octets l.place ≡ strings_fit 1024 l.octets 0
