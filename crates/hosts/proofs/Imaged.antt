-- A journal in an image, from its store's facts to the image and its supply.
use Rattle.std.proofs.Common.{◌≡◌, ℕ, Bool, true, false, List, Some, None, Option, refl, ap, subst}
use denote.MutBor.{MutBor}
use Rattle.marks.specs.declared.power.Power.{Power}
use Rattle.marks.specs.Device.{device_of}
use Rattle.marks.specs.Octets.{cells_in, ImageTouched}
use Rattle.marks.specs.State.{State, SwitchedOn}
use Rattle.journal.specs.Floors.{floored}
use Rattle.journal.specs.Journals.{state_in, JournalTouches}
use Rattle.judging.specs.declared.answer.Answer.{Answer}
use Rattle.judging.specs.declared.answer.Verdict.{Verdict}
use Rattle.judging.specs.declared.answer.Verdict.TheVariants.{Quiet, Duplicate, Refused, Released}
use Rattle.judging.specs.Inputs.{Inputs}
use Rattle.judging.specs.Effects.{is_cut, whether, StoreMoves}
use Rattle.receiver.proofs.Law.{switch-goes-on}
use Rattle.hosts.specs.declared.supply.Supply.{Supply}
use Rattle.hosts.specs.Images.{floor_on, Wrote, Untouched, ImageLeft, ListenedIn, SwitchingGoesOn}

-- what is kept of a journal by what it holds
module _ {J : Type 0} (img : J → MutBor (List ℕ)) (power : J → Power) (last : J → Option ℕ) (floor : Option ℕ) where
  abbrev Touch : J → J → Type 0
  Touch j k = JournalTouches (ImageTouched (img j) (power j) (img k) (power k)) (cells_in (img j).now) (last j) (last k)

  abbrev pub supply_in : J → Supply
  supply_in j = record { power = power j; last = last j; floor = floor }

  pub record Left (v : Verdict) (j k : J) : Type 0 where
    pub image : ImageLeft v (img j).now (supply_in j) (img k).now (supply_in k)
    pub lender : (img k).ghost_name ≡ (img j).ghost_name
    pub same : (power k).leaves ≡ (power j).leaves

  untouched : (j k : J) → k ≡ j → Untouched (img j).now (supply_in j) (img k).now (supply_in k)
  untouched j k e = record { octets = ap (λ x. (img x).now) e; supply = ap supply_in e }

  wrote : (j k : J) → Touch j k → Wrote (img j).now (supply_in j) (img k).now (supply_in k)
  wrote j k x = record { octets = x.below.octets; written = x.below.written; place = x.place; floor = refl; leaves = x.below.leaves }

  by-cut : (cut : Bool) (j k : J) → whether cut (Touch j k) (k ≡ j)
      → whether cut (Wrote (img j).now (supply_in j) (img k).now (supply_in k)) (Untouched (img j).now (supply_in j) (img k).now (supply_in k)) × ((img k).ghost_name ≡ (img j).ghost_name) × ((power k).leaves ≡ (power j).leaves)
  by-cut true j k x = (wrote j k x, x.below.lender, x.below.leaves)
  by-cut false j k e = (untouched j k e, ap (λ x. (img x).ghost_name) e, ap (λ x. (power x).leaves) e)

  pub left : (v : Verdict) (j k : J) → StoreMoves Touch j v k → Left v j k
  left Quiet j k e = record { image = untouched j k e; lender = ap (λ x. (img x).ghost_name) e; same = ap (λ x. (power x).leaves) e }
  left Duplicate j k e = record { image = untouched j k e; lender = ap (λ x. (img x).ghost_name) e; same = ap (λ x. (power x).leaves) e }
  left (Refused r) j k x = let y = by-cut (is_cut r) j k x in record { image = y.0; lender = y.1; same = y.2 }
  left (Released d) j k x = record { image = wrote j k x; lender = x.below.lender; same = x.below.leaves }

-- power and a supply are what their parts are
pub power_at : (p : Power) (q : Power) → q.on ≡ p.on → q.charge ≡ p.charge → q.leaves ≡ p.leaves → q ≡ p
power_at p q e f g = λ i. record { on = e i; charge = f i; leaves = g i }

pub supply-at : (p q : Power) (l l' floor : Option ℕ) → p ≡ q → l ≡ l' → ◌≡◌ {A = Supply} (record { power = p; last = l; floor = floor }) (record { power = q; last = l'; floor = floor })
supply-at p q l l' floor e f = λ i. record { power = e i; last = f i; floor = floor }

pub listened-at : (i : Inputs) (a : Answer) (m n : List ℕ) (p q : Supply) (m' n' : List ℕ) (p' q' : Supply) → m ≡ n → p ≡ q → m' ≡ n' → p' ≡ q' → ListenedIn i m p a m' p' → ListenedIn i n q a n' q'
listened-at i a m n p q m' n' p' q' e f g h x =
    subst (λ (y : List ℕ). ListenedIn i y q a n' q') e
    (subst (λ (y : Supply). ListenedIn i m y a n' q') f
    (subst (λ (y : List ℕ). ListenedIn i m p a y q') g
    (subst (λ (y : Supply). ListenedIn i m p a m' y) h x)))

switched-under : (floor : Option ℕ) (s : State) (n : ℕ) (t : State) → SwitchedOn s n t → SwitchedOn (floor_on floor s) n (floor_on floor t)
switched-under None s n t x = x
switched-under (Some f) s n t x = record { marks = λ p. ap (floored f) (x.marks p); rooms = x.rooms; powered = x.powered; charged = x.charged }

pub switching_goes-on : SwitchingGoesOn
switching_goes-on m p n =
    switch-goes-on _ _ _
    (switched-under p.floor (state_in (device_of (cells_in m) p.power.on p.power.charge)) n (state_in (device_of (cells_in m) true n)) (record { marks = λ q. refl; rooms = λ q. refl; powered = refl; charged = refl }))
