use Rattle.std.proofs.Common.{◌≡◌, ℕ, ◌==◌, ◌||◌, List, [], ◌∷◌, refl, ap, arith}
use Rattle.std.proofs.lemmas.Grind.{common_steps}
use Rattle.std.specs.List.{list_any}
use Rattle.commands.specs.Release.{in_catalog}
use Rattle.commands.proofs.release.listed.Goals as goal

contains : (catalog : List ℕ) (n : ℕ) → list_any (λ x. x == n) catalog ≡ in_catalog catalog n
contains [] n = refl
contains (x ∷ xs) n = ap (λ b. x == n || b) (contains xs n)

pub returns-in-Number : goal.returns-in-Number
returns-in-Number c = let e = contains c.args.catalog.now c.in-Number.number in grind (arith, common_steps)
