-- Equality of pairs.
use Rattle.std.proofs.Common.{◌≡◌, ℕ, List, Decides, ap}
use Rattle.std.proofs.lemmas.Slice.Eq.{bytes_eq-Decides}
use Rattle.std.proofs.lemmas.Bool.Decides.{Decides-and, Decides-like}
use Rattle.marks.specs.declared.mark.Pair.{Pair}
use Rattle.marks.specs.Positions.{same_pair}

pair_same : {s k s' k' : List ℕ} → s ≡ s' → k ≡ k' → ◌≡◌ {A = Pair} (record { sid = s; kid = k }) (record { sid = s'; kid = k' })
pair_same a b = cc

pub pair_decides : (p q : Pair) → Decides (same_pair p q) (p ≡ q)
pair_decides p q =
    Decides-like (same_pair p q) (λ h. pair_same h.0 h.1) (λ e. (ap (λ x. x.sid) e, ap (λ x. x.kid) e))
    (Decides-and _ _ (bytes_eq-Decides p.sid q.sid) (bytes_eq-Decides p.kid q.kid))
