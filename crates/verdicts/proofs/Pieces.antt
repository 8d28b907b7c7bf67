-- Pieces taken one after another make up the whole.
use Rattle.std.proofs.Common.{◌≡◌, ℕ, List, [], ◌∷◌, ◌++◌, ◌∙◌}
use Rattle.std.proofs.lemmas.List.{append_assoc}

pub pieces : (a : List ℕ) (h : ℕ) (m b : List ℕ) → ((a ++ (h ∷ [])) ++ m) ++ b ≡ a ++ (h ∷ (m ++ b))
pieces a h m b = append_assoc (a ++ (h ∷ [])) m b ∙ append_assoc a (h ∷ []) (m ++ b)
