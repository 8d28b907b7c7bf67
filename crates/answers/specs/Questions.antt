-- Questions in their order, and the answer of the first that is answered no.
use Rattle.std.specs.Prelude.{Bool, true, false, cond, Some, None, Option}

-- whether it holds, and the answer where it does not
pub record Question (A : Type 0) : Type 0 where
  pub holds : Bool
  pub refusal : A

infixr 5 ◌⨟◌
-- one question after another, and at the end the answer where all of them hold
pub data Questions (A : Type 0) : Type 0 where
  otherwise : A → Questions A
  ◌⨟◌ : Question A → Questions A → Questions A

-- the answer of the first question that does not hold
abbrev pub first : {A : Type 0} → Questions A → A
first (otherwise a) = a
first (q ⨟ qs) = cond q.holds (first qs) q.refusal

-- one question
abbrev pub ask : {A : Type 0} → Bool → A → Question A
ask holds refusal = record { holds = holds; refusal = refusal }

-- is there such a thing? What is found is at hand in the questions that follow
abbrev pub found : {A X : Type 0} → Option X → A → (X → Questions A) → Questions A
found None refusal rest = ask false refusal ⨟ otherwise refusal
found (Some x) refusal rest = ask true refusal ⨟ rest x
