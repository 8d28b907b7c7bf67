-- The arguments of a command, each under its key, from whatever source: the octets of a map, or its tree.
use Rattle.std.specs.Prelude.{ℕ, Bool, cond, ◌&&◌, ℤ, Some, None, Option, nat_le, unsigned_abs}
use Rattle.items.specs.Fields.{bind}

-- where arguments come from: V is a value, T a track, S a text as it is shown; None stands for what is not as asked
pub record Source (V T S : Type 0) : Type 0 where
  -- the value of a key, or that the map has none
  pub value : ℕ → Option (Option V)
  -- the value as an unsigned number, as an integer, as a track, as a text string
  pub unsigned : V → Option ℕ
  pub integer : V → Option ℤ
  pub track : V → Option T
  pub text : V → Option S
  -- no key is there but the first n, of which m were found
  pub only : ℕ → ℕ → Bool

module _ {V T S : Type 0} (source : Source V T S) where
  -- the value of a key that has to be there
  abbrev pub required : ℕ → Option V
  required key = bind (source.value key) (λ found. found)

  -- an unsigned number
  unfoldable pub number_in : ℕ → Option ℕ
  number_in key = bind (required key) source.unsigned

  -- an unsigned number from low to high
  unfoldable pub between_in : ℕ → ℕ → ℕ → Option ℕ
  between_in key low high = bind (number_in key) (λ n. cond (nat_le low n && nat_le n high) (Some n) None)

  -- an integer from -limit to limit
  unfoldable pub signed_in : ℕ → ℕ → Option ℤ
  signed_in key limit = bind (required key) (λ v. bind (source.integer v) (λ z. cond (nat_le (unsigned_abs z) limit) (Some z) None))

  -- an unsigned number that is there, or none
  abbrev pub perhaps : Option V → Option (Option ℕ)
  perhaps None = Some None
  perhaps (Some v) = bind (source.unsigned v) (λ n. Some (Some n))

  -- an unsigned number that may be absent
  unfoldable pub optional_in : ℕ → Option (Option ℕ)
  optional_in key = bind (source.value key) perhaps

  -- a track
  unfoldable pub track_in : ℕ → Option T
  track_in key = bind (required key) source.track

  -- a text string
  unfoldable pub text_in : ℕ → Option S
  text_in key = bind (required key) source.text
