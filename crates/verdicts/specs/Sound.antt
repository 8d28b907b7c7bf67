-- A good signature's kid is known for its alg, by either sheet.
use Rattle.std.specs.Prelude.{◌≡◌, ℕ, Bool, true, ◌&&◌, List, [], ◌∷◌, ◌==◌}
use Rattle.std.proofs.Common.{sym, ⊎_elim}
use Rattle.std.proofs.lemmas.Bool.{and_parts, and_from, or_cases, or_left, or_right, true≢false}
use Rattle.std.specs.List.{list_any}
use Rattle.std.specs.Str.{bytes_eq}
use Rattle.sha256.specs.Sha256.{sha256_of}
use Rattle.verdicts.specs.Rows.{rows_of, field}
use Rattle.verdicts.specs.Tags.{is_of_kid, is_tag, is_listed, is_tagged}
use Rattle.verdicts.specs.Verdicts.{is_pinned, is_vouched}

-- what each row of one kind is, some row is where some row is of that kind
some_mono : (p q : List ℕ → Bool) → ((row : List ℕ) → p row ≡ true → q row ≡ true) → (rows : List (List ℕ)) → list_any p rows ≡ true → list_any q rows ≡ true
some_mono p q so [] h = absurd (true≢false (sym h))
some_mono p q so (row ∷ rows) h = ⊎_elim
    (λ here. or_left (q row) (list_any q rows) (so row here))
    (λ later. or_right (q row) (list_any q rows) (some_mono p q so rows later))
    (or_cases (p row) (list_any p rows) h)

-- a vouched signature's kid is pinned
pub vouched_pinned : (sheet kid : List ℕ) (alg : ℕ) (transcript signature : List ℕ) → is_vouched sheet kid alg transcript signature ≡ true → is_pinned sheet kid alg ≡ true
vouched_pinned sheet kid alg transcript signature h = (and_parts (is_pinned sheet kid alg) _ h).0

-- a tagged signature's kid is listed
pub tagged_listed : (sheet kid : List ℕ) (alg : ℕ) (transcript signature : List ℕ) → is_tagged sheet kid alg transcript signature ≡ true → is_listed sheet kid alg ≡ true
tagged_listed sheet kid alg transcript signature h =
    let parts = and_parts (alg == 3) (list_any (is_tag kid (sha256_of transcript) signature) (rows_of 64 sheet)) h in
    and_from (alg == 3) (list_any (is_of_kid kid) (rows_of 64 sheet)) parts.0
    (some_mono (is_tag kid (sha256_of transcript) signature) (is_of_kid kid) (λ row so. (and_parts (is_of_kid kid row) _ (and_parts (is_of_kid kid row && bytes_eq (field 16 32 row) (sha256_of transcript)) _ so).0).0) (rows_of 64 sheet) parts.1)
