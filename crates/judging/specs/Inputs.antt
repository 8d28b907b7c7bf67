-- What a listening is given.
use Rattle.std.specs.Prelude.{ℕ, Bool, List}
use Rattle.judging.specs.declared.answer.Listening.{Listening}
use Rattle.judging.specs.declared.answer.Lent.{Lent}

-- what a message is judged by besides the store: the clock in seconds, the demodulator's doubt, the track numbers on the list, and what the
-- verifier means: which kid is known for which alg, and which signature is good for a kid, an alg and a transcript
pub record Conditions : Type 0 where
  pub clock : ℕ
  pub suspect : Bool
  pub catalog : List ℕ
  pub known : List ℕ → ℕ → Bool
  pub good : List ℕ → ℕ → List ℕ → List ℕ → Bool

-- all that a listening is given: a burst, how many of its tones count, from which on, the octets of the work buffer, and the conditions
pub record Inputs : Type 0 where
  pub burst : List ℕ
  pub count : ℕ
  pub start : ℕ
  pub work : ℕ
  pub conditions : Conditions

-- over a kind of verifier, by its meaning
module _ {V : Type 0} (known : V → List ℕ → ℕ → Bool) (good : V → List ℕ → ℕ → List ℕ → List ℕ → Bool) where
  abbrev pub conditions_by : V → Listening → List ℕ → Conditions
  conditions_by v l catalog = record { clock = l.clock; suspect = l.suspect; catalog = catalog; known = known v; good = good v }

  abbrev pub inputs_by : V → List ℕ → Listening → List ℕ → ℕ → Inputs
  inputs_by v burst l catalog work = record { burst = burst; count = l.count; start = l.start; work = work; conditions = conditions_by v l catalog }

  -- of what a listening is lent, with so many octets to work in
  abbrev pub conditions_of : Lent V → Conditions
  conditions_of lent = conditions_by lent.verifier.now lent.listening lent.catalog.now

  abbrev pub inputs_of : Lent V → ℕ → Inputs
  inputs_of lent work = inputs_by lent.verifier.now lent.burst.now lent.listening lent.catalog.now work
