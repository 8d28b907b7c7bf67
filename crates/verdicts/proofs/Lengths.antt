-- A tag has as many octets as its field.
use Rattle.std.proofs.Common.{◌≡◌, ℕ, zero, suc, ◌+◌, ◌*◌, ◌/◌, ◌≤◌, Bool, true, ◌&&◌, eqb, List, ◌∷◌, ◌++◌, length, take, drop, sym, ap, ◌∙◌, ⊎_elim, arith, length-drop, length-take-le}
use Rattle.std.specs.List.{list_any}
use Rattle.std.specs.Simd.{first_chunks}
use Rattle.std.specs.Str.{bytes_eq}
use Rattle.std.proofs.lemmas.List.{length-append, take_at, drop_at}
use Rattle.std.proofs.lemmas.Slice.Eq.{bytes_eq-Decides}
use Rattle.std.proofs.lemmas.Bool.{and_parts, or_cases, true≢false}
use Rattle.sha256.specs.Sha256.{sha256_of}
use Rattle.verdicts.specs.Rows.{rows_of, field}
use Rattle.verdicts.specs.Tags.{is_of_kid, is_tag, is_tagged}

module _ (n : ℕ) (more : (m : ℕ) → (n + m) / n ≡ suc (m / n)) (is : List ℕ → Bool) (row rest : List ℕ) (whole : length row ≡ n) where
  first_row : rows_of n (row ++ rest) ≡ row ∷ rows_of n rest
  first_row =
      let count : length (row ++ rest) / n ≡ suc (length rest / n) = ap (λ k. k / n) (length-append row rest ∙ ap (λ k. k + length rest) whole) ∙ more (length rest) in
      let t = take_at row rest n whole in
      let d = drop_at row rest n whole in
      ap (λ k. first_chunks n k (row ++ rest)) count ∙ (λ i. t i ∷ first_chunks n (length rest / n) (d i))

module _ (is : List ℕ → Bool) (Q : Type 0) (so : (row : List ℕ) → length row ≡ 64 → is row ≡ true → Q) where
  -- what follows from any whole row that is asked for follows where there is one
  some-whole : (count : ℕ) (sheet : List ℕ) → count * 64 ≤ length sheet → list_any is (first_chunks 64 count sheet) ≡ true → Q
  some-whole zero sheet l h = absurd (true≢false (sym h))
  some-whole (suc count) sheet l h = ⊎_elim
      (λ here. so (take 64 sheet) (length-take-le 64 sheet (omega arith)) here)
      (λ later. some-whole count (drop 64 sheet) (omega (arith, length-drop 64 sheet)) later)
      (or_cases (is (take 64 sheet)) (list_any is (first_chunks 64 count (drop 64 sheet))) h)

tag_length : (kid hash tag row : List ℕ) → length row ≡ 64 → is_tag kid hash tag row ≡ true → length tag ≡ 16
tag_length kid hash tag row whole h =
    let same = (and_parts (is_of_kid kid row && bytes_eq (field 16 32 row) hash) (bytes_eq (field 48 16 row) tag) h).1 in
    let e : field 48 16 row ≡ tag = (bytes_eq-Decides (field 48 16 row) tag).0 same in
    ap length (sym e) ∙ length-take-le 16 (drop 48 row) (omega (arith, length-drop 48 row))

pub tagged_length : (sheet kid : List ℕ) (alg : ℕ) (transcript signature : List ℕ) → is_tagged sheet kid alg transcript signature ≡ true → length signature ≡ 16
tagged_length sheet kid alg transcript signature h =
    let some = (and_parts (eqb alg 3) (list_any (is_tag kid (sha256_of transcript) signature) (rows_of 64 sheet)) h).1 in
    some-whole (is_tag kid (sha256_of transcript) signature) (length signature ≡ 16) (tag_length kid (sha256_of transcript) signature) (length sheet / 64) sheet (omega arith) some
