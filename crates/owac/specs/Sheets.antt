-- What either sheet means.
use Rattle.std.specs.Prelude.{◌≡◌, ℕ, Bool, true, List, vec_items}
use Rattle.verdicts.specs.Verdicts.{is_pinned, is_vouched}
use Rattle.verdicts.specs.Tags.{is_listed, is_tagged}
use Rattle.verdicts.specs.Sound.{vouched_pinned, tagged_listed}
use Rattle.owac.specs.declared.sheet.Sheet.{Sheet}
use Rattle.owac.specs.declared.sheet.Sheet.TheVariants.{Verdicts, Tags}

-- the sheet makes the kid known for the alg
abbrev pub known_by : Sheet → List ℕ → ℕ → Bool
known_by (Verdicts rows) kid alg = is_pinned (vec_items rows) kid alg
known_by (Tags rows) kid alg = is_listed (vec_items rows) kid alg

-- the sheet calls the signature good
abbrev pub good_by : Sheet → List ℕ → ℕ → List ℕ → List ℕ → Bool
good_by (Verdicts rows) kid alg transcript signature = is_vouched (vec_items rows) kid alg transcript signature
good_by (Tags rows) kid alg transcript signature = is_tagged (vec_items rows) kid alg transcript signature

-- a good signature's kid is known
pub good-known : (sheet : Sheet) (kid : List ℕ) (alg : ℕ) (transcript signature : List ℕ) → good_by sheet kid alg transcript signature ≡ true → known_by sheet kid alg ≡ true
good-known (Verdicts rows) kid alg transcript signature h = vouched_pinned (vec_items rows) kid alg transcript signature h
good-known (Tags rows) kid alg transcript signature h = tagged_listed (vec_items rows) kid alg transcript signature h
