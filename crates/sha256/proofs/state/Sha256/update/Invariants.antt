use Rattle.std.proofs.Common.{◌≡◌, ℕ, ◌≤◌, List, ◌++◌, length}
use Rattle.sha256.specs.Absorbed.{Absorbed}
use Rattle.sha256.proofs.state.Sha256.update.Given as goal

-- behind what is taken so far stands what is left
abbrev pub invariant-loop-rest : goal.invariant-loop-rest
invariant-loop-rest l = (length l.rest ≤ length l.octets) × ((seen : List ℕ) → Absorbed l.initial.self seen → (taken : List ℕ) × (l.octets ≡ taken ++ l.rest) × Absorbed l.self (seen ++ taken))

abbrev pub decreases-loop-rest : goal.decreases-loop-rest
decreases-loop-rest l = length l.rest
