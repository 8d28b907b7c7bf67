-- A raise over an image, from the store's facts to the image's.
use Rattle.std.proofs.Common.{◌≡◌, ℕ, Bool, true, List, Option, refl, ap, ◌∙◌, subst, MutBor}
use Rattle.marks.specs.declared.mark.Pair.{Pair}
use Rattle.marks.specs.declared.mark.Mark.{Mark}
use Rattle.marks.specs.declared.mark.CutLeaves.{CutLeaves}
use Rattle.marks.specs.declared.mark.Raised.{Raised}
use Rattle.marks.specs.declared.mark.Raised.TheVariants.{Off, Low, Full, Cut, Done}
use Rattle.marks.specs.declared.power.Power.{Power}
use Rattle.marks.specs.State.{Raises, RaiseMoves}
use Rattle.marks.specs.Octets.{cells_in, ImageTouched}
use Rattle.journal.specs.Floors.{FloorMoves}
use Rattle.journal.specs.Journals.{JournalTouches}
use Rattle.journal_laws.specs.Images.{image_state, ImageMoves, RaisedImage}

-- what a raise keeps of a store that has an image, what a cut leaves, and an epoch
module _ {X : Type 0} (img : X → MutBor (List ℕ)) (power : X → Power) (last : X → Option ℕ) (epoch : X → ℕ) where
  pub record Kept (w : Raised) (s t : X) : Type 0 where
    pub lender : (img t).ghost_name ≡ (img s).ghost_name
    pub floor : epoch t ≡ epoch s
    pub memory : ImageMoves (power s).leaves w (img s).now (img t).now

  abbrev Touch : X → X → Type 0
  Touch s t = FloorMoves (JournalTouches (ImageTouched (img s) (power s) (img t) (power t)) (cells_in (img s).now) (last s) (last t)) (epoch s) (epoch t)

  pub kept : (w : Raised) (s t : X) → RaiseMoves Touch s w t → Kept w s t
  kept Off s t e = record { lender = ap (λ x. (img x).ghost_name) e; floor = ap (λ x. epoch x) e; memory = ap (λ x. (img x).now) e }
  kept Low s t e = record { lender = ap (λ x. (img x).ghost_name) e; floor = ap (λ x. epoch x) e; memory = ap (λ x. (img x).now) e }
  kept Full s t e = record { lender = ap (λ x. (img x).ghost_name) e; floor = ap (λ x. epoch x) e; memory = ap (λ x. (img x).now) e }
  kept Cut s t x = record { lender = x.below.below.lender; floor = x.epoch; memory = record { octets = x.below.below.octets; written = x.below.below.written } }
  kept Done s t x = record { lender = x.below.below.lender; floor = x.epoch; memory = record { octets = x.below.below.octets; written = x.below.below.written } }

state-at : (f f' : ℕ) (m m' : List ℕ) (b b' : Bool) (n n' : ℕ) → f ≡ f' → m ≡ m' → b ≡ b' → n ≡ n' → image_state f m b n ≡ image_state f' m' b' n'
state-at f f' m m' b b' n n' e g h k =
    ap (λ x. image_state x m b n) e ∙ ap (λ x. image_state f' x b n) g ∙ ap (λ x. image_state f' m' x n) h ∙ ap (λ x. image_state f' m' b' x) k

moves_at : (v v' : CutLeaves) (w : Raised) (m n m' n' : List ℕ) → v ≡ v' → m ≡ n → m' ≡ n' → ImageMoves v w m m' → ImageMoves v' w n n'
moves_at v v' w m n m' n' e g h x =
    subst (λ y. ImageMoves v' w n y) h (subst (λ y. ImageMoves v' w y m') g (subst (λ y. ImageMoves y w m m') e x))

pub raised-image : (f f0 f1 n n0 n1 : ℕ) (v v0 : CutLeaves) (b0 b1 : Bool) (p : Pair) (new : Mark) (w : Raised) (m m0 m1 m' : List ℕ) →
    f0 ≡ f → f1 ≡ f0 → n0 ≡ n → v0 ≡ v → b0 ≡ true → m0 ≡ m → m1 ≡ m' → Raises (image_state f0 m0 b0 n0) p new w (image_state f1 m1 b1 n1) → ImageMoves v0 w m0 m1 → RaisedImage f n v p new w m m'
raised-image f f0 f1 n n0 n1 v v0 b0 b1 p new w m m0 m1 m' ef eg en ev eb em em' x y =
    let s = state-at f0 f m0 m b0 true n0 n ef em eb en in
    let t = state-at f1 f m1 m' b1 b1 n1 n1 (eg ∙ ef) em' refl refl in
    record {
      power = b1;
      charge = n1;
      meaning = subst (λ z. Raises (image_state f m true n) p new w z) t (subst (λ z. Raises z p new w (image_state f1 m1 b1 n1)) s x);
      memory = moves_at v0 v w m0 m m1 m' ev em em' y;
    }
