-- Where the flags of a sent frame stand.
use Rattle.std.proofs.Common.{◌≡◌, ℕ, zero, suc, ◌+◌, ◌-◌, ◌*◌, ◌<◌, ◌≤◌, Bool, true, false, List, [], ◌∷◌, ◌++◌, length, take, drop, replicate, Some, sym, refl, ap, ◌∙◌, append_assoc, append-nil, not-suc-le-zero, arith}
use Rattle.std.proofs.lemmas.List.{take_at, drop_at, drop-drop}
use Rattle.std.proofs.lemmas.Bool.{both_ways}
use Rattle.line.specs.Burst.{flags, flagged}
use Rattle.line.specs.Flags.{flag, starts, body_start, closing, between, OpensAt}
use Rattle.line.specs.Stuffing.{stuff, stuffed}
use Rattle.line.proofs.Whole.{length-flagged}
use Rattle.line_laws.proofs.Firsts.{flag-stands, stands-flag, closing-told}
use Rattle.line_laws.proofs.Openings.{opening_told}

flags-front : (n : ℕ) → flags (suc n) ≡ flag ++ flags n
unfolding flags
flags-front zero = refl
flags-front (suc n) = ap (λ z. z ++ flag) (flags-front n) ∙ append_assoc flag (flags n) flag

drop-flags : (i j : ℕ) (rest : List Bool) → drop (8 * i) (flags (i + j) ++ rest) ≡ flags j ++ rest
drop-flags zero j rest = let e : 0 + j ≡ j = omega arith in rw e
drop-flags (suc i) j rest =
    let e : suc i + j ≡ suc (i + j) = omega arith in
    let k : 8 * suc i ≡ 8 + 8 * i = omega arith in
    rw (e, k) (sym (drop-drop (8 * i) 8 (flags (suc (i + j)) ++ rest)) ∙ ap (λ z. drop (8 * i) (drop 8 (z ++ rest))) (flags-front (i + j)) ∙ drop-flags i j rest)

no_flags : (rest : List Bool) → flags 0 ++ rest ≡ rest
unfolding flags
no_flags rest = refl

front-on : (n : ℕ) (rest : List Bool) → starts flag (flags (suc n) ++ rest) ≡ true
unfolding starts
front-on n rest = ap (λ z. starts flag (z ++ rest)) (flags-front n)

-- fewer 1s than a flag has, and then a 0
no_flag : (n k : ℕ) (bits rest : List Bool) → n + 1 < k → starts (replicate k true ++ false ∷ []) (stuff n bits ++ (false ∷ rest)) ≡ false
unfolding starts stuff
no_flag n zero bits rest h = absurd (not-suc-le-zero h)
no_flag zero (suc k) [] rest h = refl
no_flag (suc n) (suc k) [] rest h = refl
no_flag zero (suc k) (false ∷ bits) rest h = refl
no_flag (suc n) (suc k) (false ∷ bits) rest h = refl
no_flag zero (suc zero) (true ∷ bits) rest h = absurd (omega arith)
no_flag zero (suc (suc k)) (true ∷ bits) rest h = refl
no_flag (suc n) (suc k) (true ∷ bits) rest h = no_flag n k bits rest (omega arith)

zero-then : (bits rest : List Bool) → starts flag (false ∷ (stuff 4 bits ++ (flag ++ rest))) ≡ false
unfolding starts
zero-then bits rest = no_flag 4 6 bits _ (omega arith)

-- a stuffed body has no flag before its end
inner_off : (k : ℕ) (bits rest : List Bool) (j : ℕ) → j < length (stuff k bits) → starts flag (drop j (stuff k bits ++ (flag ++ rest))) ≡ false
unfolding stuff starts
inner_off zero [] rest j h = absurd (not-suc-le-zero h)
inner_off (suc k) [] rest j h = absurd (not-suc-le-zero h)
inner_off zero (false ∷ bits) rest zero h = zero-then bits rest
inner_off zero (false ∷ bits) rest (suc j) h = inner_off 4 bits rest j (omega arith)
inner_off (suc k) (false ∷ bits) rest zero h = zero-then bits rest
inner_off (suc k) (false ∷ bits) rest (suc j) h = inner_off 4 bits rest j (omega arith)
inner_off zero (true ∷ bits) rest zero h = refl
inner_off zero (true ∷ bits) rest (suc zero) h = zero-then bits rest
inner_off zero (true ∷ bits) rest (suc (suc j)) h = inner_off 4 bits rest j (omega arith)
inner_off (suc k) (true ∷ bits) rest zero h = refl
inner_off (suc k) (true ∷ bits) rest (suc j) h = inner_off k bits rest j (omega arith)

module _ (bits : List Bool) (some : 0 < length (stuffed bits)) where
  behind : (j : ℕ) → drop (264 + j) (flagged (stuffed bits)) ≡ drop j (stuffed bits ++ flag)
  unfolding flagged
  behind j = sym (drop-drop j 264 (flags 33 ++ (stuffed bits ++ flag))) ∙ ap (drop j) (drop-flags 33 0 (stuffed bits ++ flag) ∙ no_flags (stuffed bits ++ flag))

  flag-on : (i : ℕ) → i ≤ 32 → starts flag (drop (8 * i) (flagged (stuffed bits))) ≡ true
  unfolding flagged
  flag-on i h =
      let e : 33 ≡ i + suc (32 - i) = omega arith in
      ap (λ z. starts flag (drop (8 * i) (flags z ++ (stuffed bits ++ flag)))) e ∙ ap (starts flag) (drop-flags i (suc (32 - i)) (stuffed bits ++ flag)) ∙ front-on (32 - i) (stuffed bits ++ flag)

  off-inside : (j : ℕ) → j < length (stuffed bits) → starts flag (drop (264 + j) (flagged (stuffed bits))) ≡ false
  off-inside j h = ap (starts flag) (behind j) ∙ ap (λ t. starts flag (drop j (stuffed bits ++ t))) (sym (append-nil flag)) ∙ inner_off 4 bits [] j h

  end_on : starts flag (drop (264 + length (stuffed bits)) (flagged (stuffed bits))) ≡ true
  unfolding starts
  end_on = ap (starts flag) (behind (length (stuffed bits)) ∙ drop_at (stuffed bits) flag (length (stuffed bits)) refl)

  opens : OpensAt (flagged (stuffed bits)) 0 264
  opens =
      record {
        first = 0;
        more = 32;
        at = refl;
        from = record { from = omega arith; here = flag-stands _ 0 (flag-on 0 (omega arith)); none = λ j a b s. absurd (omega arith) };
        each = λ i h. let e : 0 + 8 * i ≡ 8 * i = omega arith in flag-stands _ (0 + 8 * i) (ap (λ j. starts flag (drop j (flagged (stuffed bits)))) e ∙ flag-on i h);
        last = λ s. both_ways _ (off-inside 0 some) (stands-flag (flagged (stuffed bits)) 264 s);
      }

  pub starts_is : body_start (flagged (stuffed bits)) 0 ≡ Some 264
  starts_is = let l = length-flagged (stuffed bits) in (opening_told (flagged (stuffed bits)) 0 264).only opens (omega arith)

  pub closes-is : closing (flagged (stuffed bits)) 264 ≡ Some (264 + length (stuffed bits))
  closes-is =
      (closing-told (flagged (stuffed bits)) 264 (264 + length (stuffed bits))).only
      (record {
        from = omega arith;
        here = flag-stands _ (264 + length (stuffed bits)) end_on;
        none = λ j a b s.
            let e : j ≡ 264 + (j - 264) = omega arith in
            both_ways _ (ap (λ i. starts flag (drop i (flagged (stuffed bits)))) e ∙ off-inside (j - 264) (omega arith)) (stands-flag _ j s);
      })

  pub body_is : between 264 (264 + length (stuffed bits)) (flagged (stuffed bits)) ≡ stuffed bits
  unfolding between
  body_is =
      let e : 264 + length (stuffed bits) - 264 ≡ length (stuffed bits) = omega arith in
      ap (λ n. take n (drop 264 (flagged (stuffed bits)))) e ∙ ap (take (length (stuffed bits))) (behind 0) ∙ take_at (stuffed bits) flag (length (stuffed bits)) refl
