-- A store under a floor, from the floor's facts to the store's.
use Rattle.std.proofs.Common.{◌≡◌, ℕ, Bool, true, false, Some, Option, sym, ap, ◌∙◌, subst}
use Rattle.marks.specs.State.{State}
use Rattle.journal.specs.Floors.{on_floor, FloorMoves}
use Rattle.judging.specs.declared.answer.Answer.{Answer}
use Rattle.judging.specs.declared.answer.Verdict.{Verdict}
use Rattle.judging.specs.declared.answer.Verdict.TheVariants.{Quiet, Duplicate, Refused, Released}
use Rattle.judging.specs.Inputs.{Inputs}
use Rattle.judging.specs.Effects.{is_cut, whether, StoreMoves}
use Rattle.receiver.specs.History.{ListenGoesOn}
use Rattle.hosts.specs.Images.{floor_on}

-- what is kept of a floor over a store
module _ {X S : Type 0} (below : X → S) (epoch : X → ℕ) (touches : S → S → Type 0) where
  pub record Moved (p : X) (v : Verdict) (q : X) : Type 0 where
    pub store : StoreMoves touches (below p) v (below q)
    pub floor : epoch q ≡ epoch p

  abbrev Touch : X → X → Type 0
  Touch p q = FloorMoves (touches (below p) (below q)) (epoch p) (epoch q)

  by-cut : (cut : Bool) (p q : X) → whether cut (Touch p q) (q ≡ p) → whether cut (touches (below p) (below q)) (below q ≡ below p) × (epoch q ≡ epoch p)
  by-cut true p q x = (x.below, x.epoch)
  by-cut false p q e = (ap below e, ap epoch e)

  pub moved : (v : Verdict) (p q : X) → StoreMoves Touch p v q → Moved p v q
  moved Quiet p q e = record { store = ap below e; floor = ap epoch e }
  moved Duplicate p q e = record { store = ap below e; floor = ap epoch e }
  moved (Refused r) p q x = let k = by-cut (is_cut r) p q x in record { store = k.0; floor = k.1 }
  moved (Released d) p q x = record { store = x.below; floor = x.epoch }

pub goes_at : (i : Inputs) (s s' : State) (a : Answer) (t t' : State) → s ≡ s' → t ≡ t' → ListenGoesOn i s a t → ListenGoesOn i s' a t'
goes_at i s s' a t t' e f x = subst (λ (y : State). ListenGoesOn i y a t') e (subst (λ (y : State). ListenGoesOn i s a y) f x)

pub floor-at : {S : Type 0} (state : S → State) (floor : Option ℕ) (f g : ℕ) (s u : S) → floor ≡ Some f → g ≡ f → u ≡ s → on_floor g (state u) ≡ floor_on floor (state s)
floor-at {S = S} state floor f g s u e h k = ap (λ (x : ℕ). on_floor x (state u)) h ∙ ap (λ (x : S). on_floor f (state x)) k ∙ sym (ap (λ (o : Option ℕ). floor_on o (state s)) e)

pub moves_at : {S : Type 0} (touches : S → S → Type 0) (s s' t t' : S) (v : Verdict) → s ≡ s' → t ≡ t' → StoreMoves touches s v t → StoreMoves touches s' v t'
moves_at {S = S} touches s s' t t' v e f x = subst (λ (y : S). StoreMoves touches y v t') e (subst (λ (y : S). StoreMoves touches s v y) f x)
