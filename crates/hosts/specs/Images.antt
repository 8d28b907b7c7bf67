-- A journal in a lent image, under a floor if there is one.
use Rattle.std.specs.Prelude.{◌≡◌, ℕ, true, List, Some, None, Option}
use Rattle.marks.specs.Device.{device_of}
use Rattle.marks.specs.Octets.{cells_in, OneCell, AfterWrite}
use Rattle.marks.specs.State.{State}
use Rattle.journal.specs.Floors.{on_floor}
use Rattle.journal.specs.Journals.{state_in, chosen}
use Rattle.judging.specs.declared.answer.Answer.{Answer}
use Rattle.judging.specs.declared.answer.Verdict.{Verdict}
use Rattle.judging.specs.declared.answer.Verdict.TheVariants.{Quiet, Duplicate, Refused, Released}
use Rattle.judging.specs.Inputs.{Inputs}
use Rattle.judging.specs.Effects.{is_cut, whether}
use Rattle.receiver.specs.History.{ListenGoesOn, SwitchGoesOn}
use Rattle.hosts.specs.declared.supply.Supply.{Supply}

-- a store's meaning under a floor, if there is one
abbrev pub floor_on : Option ℕ → State → State
floor_on None s = s
floor_on (Some f) s = on_floor f s

-- what a journal in an image means
abbrev pub image_state : List ℕ → Supply → State
image_state m p = floor_on p.floor (state_in (device_of (cells_in m) p.power.on p.power.charge))

-- one cell of the image at most differs, as a write or its cut leaves it; the chosen cell is the one last written; floor and what a cut leaves stay
pub record Wrote (m : List ℕ) (p : Supply) (m' : List ℕ) (p' : Supply) : Type 0 where
  pub octets : OneCell m m'
  pub written : AfterWrite p.power.leaves m m'
  pub place : p'.last ≡ chosen (cells_in m) p.last
  pub floor : p'.floor ≡ p.floor
  pub leaves : p'.power.leaves ≡ p.power.leaves

-- every octet and all that lasts beside them are as they were
pub record Untouched (m : List ℕ) (p : Supply) (m' : List ℕ) (p' : Supply) : Type 0 where
  pub octets : m' ≡ m
  pub supply : p' ≡ p

-- what a verdict leaves of an image and its supply: only a release and a cut write touch them
abbrev pub ImageLeft : Verdict → List ℕ → Supply → List ℕ → Supply → Type 0
ImageLeft Quiet m p m' p' = Untouched m p m' p'
ImageLeft Duplicate m p m' p' = Untouched m p m' p'
ImageLeft (Refused refusal) m p m' p' = whether (is_cut refusal) (Wrote m p m' p') (Untouched m p m' p')
ImageLeft (Released d) m p m' p' = Wrote m p m' p'

-- a listening on an image: its meaning goes on lawfully, and its memory is touched as said
pub record ListenedIn (i : Inputs) (m : List ℕ) (p : Supply) (a : Answer) (m' : List ℕ) (p' : Supply) : Type 0 where
  pub goes : ListenGoesOn i (image_state m p) a (image_state m' p')
  pub memory : ImageLeft a.verdict m p m' p'

-- a supply that was switched on for n writes
abbrev pub switched_on : Supply → ℕ → Supply
switched_on p n = record { power = record { on = true; charge = n; leaves = p.power.leaves }; last = None; floor = p.floor }

-- switching an image on means what switching a store on means, and goes on lawfully
abbrev pub SwitchingGoesOn : Type 0
SwitchingGoesOn = (m : List ℕ) (p : Supply) (n : ℕ) → SwitchGoesOn (image_state m p) n (image_state m (switched_on p n))
