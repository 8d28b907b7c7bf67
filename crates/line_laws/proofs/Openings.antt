-- The body's start, as a function and as a relation.
use Rattle.std.proofs.Common.{◌≡◌, ℕ, zero, suc, ◌+◌, ◌-◌, ◌*◌, ◌<◌, ◌≤◌, Bool, true, false, ltb, List, [], length, drop, Some, None, Option, sym, refl, ap, ◌∙◌, subst, inl, inr, arith}
use Rattle.std.proofs.lemmas.List.{drop-drop, drop_all}
use Rattle.std.proofs.lemmas.Bool.{cond-true, cond-false, cases_Bool, cases_eq, both_ways, ltb-true, lt-ltb}
use Rattle.line.specs.Flags.{flag, starts, first_flag, past_flags, within, behind_opening, body_start, FlagAt, OpensAt}
use Rattle.line.proofs.Places.{flag-inside, no_more-flags, one-more-flag}
use Rattle.line_laws.specs.Passing.{Opening}
use Rattle.line_laws.proofs.Firsts.{flag-stands, stands-flag, first-told, first-only}

-- flags that stand eight bits apart from k on, and none behind them
pub record Row (bits : List Bool) (k b : ℕ) : Type 0 where
  pub more : ℕ
  pub at : b ≡ k + 8 * (more + 1)
  pub each : (i : ℕ) → i ≤ more → starts flag (drop (k + 8 * i) bits) ≡ true
  pub last : starts flag (drop b bits) ≡ false

none_in_none : starts flag [] ≡ false
unfolding starts
none_in_none = refl

module _ (bits : List Bool) where
  one-flag : (k : ℕ) → starts flag (drop k bits) ≡ true → starts flag (drop (k + 8) bits) ≡ false → Row bits k (k + 8)
  one-flag k t f =
      record {
        more = 0;
        at = omega arith;
        each = λ i h. let e : k + 8 * i ≡ k = omega arith in ap (λ j. starts flag (drop j bits)) e ∙ t;
        last = f;
      }

  flag-more : (k b : ℕ) → starts flag (drop k bits) ≡ true → Row bits (k + 8) b → Row bits k b
  flag-more k b t r =
      record {
        more = r.more + 1;
        at = let a = r.at in omega arith;
        each = λ i h. elim (cases_eq i 0) [
          | inl z ↦ let e : k + 8 * i ≡ k = omega arith in ap (λ j. starts flag (drop j bits)) e ∙ t
          | inr n ↦ let e : k + 8 * i ≡ k + 8 + 8 * (i - 1) = omega arith in ap (λ j. starts flag (drop j bits)) e ∙ r.each (i - 1) (omega arith)
        ];
        last = r.last;
      }

  -- the place behind the flags is behind such a row
  past_row : (n k : ℕ) → starts flag (drop k bits) ≡ true → length bits ≤ k + 8 * n → Row bits k (past_flags n k (drop k bits))
  past_row zero k t h = absurd (both_ways _ (ap (starts flag) (drop_all k bits (omega arith)) ∙ none_in_none) t)
  past_row (suc n) k t h =
      let e : past_flags (suc n) k (drop k bits) ≡ past_flags n (k + 8) (drop (k + 8) bits) = one-more-flag n k (drop k bits) t ∙ ap (past_flags n (k + 8)) (drop-drop 8 k bits) in
      subst (Row bits k) (sym e)
      (elim (cases_Bool (starts flag (drop (k + 8) bits))) [
        | inl u ↦ flag-more k _ t (past_row n (k + 8) u (omega arith))
        | inr f ↦ subst (Row bits k) (sym (no_more-flags n (k + 8) (drop (k + 8) bits) f)) (one-flag k t f)
      ])

  -- and only there
  row_past : (m n k b : ℕ) → m < n → b ≡ k + 8 * (m + 1) → ((i : ℕ) → i ≤ m → starts flag (drop (k + 8 * i) bits) ≡ true) → starts flag (drop b bits) ≡ false → past_flags n k (drop k bits) ≡ b
  row_past m zero k b h a each f = absurd (omega arith)
  row_past zero (suc n) k b h a each f =
      let z : k + 8 * 0 ≡ k = omega arith in
      let t : starts flag (drop k bits) ≡ true = ap (λ j. starts flag (drop j bits)) (sym z) ∙ each 0 (omega arith) in
      let e : b ≡ k + 8 = omega arith in
      let g : starts flag (drop (k + 8) bits) ≡ false = ap (λ j. starts flag (drop j bits)) (sym e) ∙ f in
      one-more-flag n k (drop k bits) t ∙ ap (past_flags n (k + 8)) (drop-drop 8 k bits) ∙ no_more-flags n (k + 8) (drop (k + 8) bits) g ∙ sym e
  row_past (suc m) (suc n) k b h a each f =
      let z : k + 8 * 0 ≡ k = omega arith in
      let t : starts flag (drop k bits) ≡ true = ap (λ j. starts flag (drop j bits)) (sym z) ∙ each 0 (omega arith) in
      one-more-flag n k (drop k bits) t ∙ ap (past_flags n (k + 8)) (drop-drop 8 k bits)
      ∙ row_past m n (k + 8) b (omega arith) (omega arith) (λ i l. let e : k + 8 + 8 * i ≡ k + 8 * (i + 1) = omega arith in ap (λ j. starts flag (drop j bits)) e ∙ each (i + 1) (omega arith)) f

not_stands : (bits : List Bool) (b : ℕ) → (FlagAt bits b → ⊥) → starts flag (drop b bits) ≡ false
not_stands bits b f = elim (cases_Bool (starts flag (drop b bits))) [ inl t ↦ absurd (f (flag-stands bits b t)) | inr g ↦ g ]

within-told : (bits : List Bool) (p b : ℕ) → within bits p ≡ Some b → (p ≡ b) × (b < length bits)
within-told bits p b e =
    elim (cases_Bool (ltb p (length bits))) [
      | inl t ↦ let q : p ≡ b = let s = sym (cond-true _ _ _ t) ∙ e in cc in let l = ltb-true p (length bits) t in (q, omega arith)
      | inr f ↦ let z : ◌≡◌ {A = ℕ} 0 1 = let s = sym (cond-false _ _ _ f) ∙ e in cc in absurd (omega arith)
    ]

opening_by : (bits : List Bool) (start b : ℕ) (o : Option ℕ) → first_flag start (drop start bits) ≡ o → behind_opening bits o ≡ Some b → OpensAt bits start b × (b < length bits)
opening_by bits start b None e g = let z : ◌≡◌ {A = ℕ} 0 1 = cc in absurd (omega arith)
opening_by bits start b (Some k) e g =
    let w = within-told bits (past_flags (length bits) k (drop k bits)) b g in
    let f = flag-inside start k bits e in
    let r = subst (Row bits k) w.0 (past_row bits (length bits) k f.0 (omega arith)) in (
      record {
        first = k;
        more = r.more;
        at = r.at;
        from = first-told bits start k e;
        each = λ i h. flag-stands bits (k + 8 * i) (r.each i h);
        last = λ s. both_ways _ r.last (stands-flag bits b s);
      },
      w.1,
    )

pub opening_told : (bits : List Bool) (start b : ℕ) → Opening bits start b
unfolding body_start
opening_told bits start b =
    record {
      told = opening_by bits start b (first_flag start (drop start bits)) refl;
      only = λ o h.
          let e = first-only bits start o.first o.from in
          let a = o.at in
          let fl = flag-inside start o.first bits e in
          let p = row_past bits o.more (length bits) o.first b (omega arith) o.at (λ i l. stands-flag bits (o.first + 8 * i) (o.each i l)) (not_stands bits b o.last) in
          ap (behind_opening bits) e ∙ ap (within bits) p ∙ cond-true _ _ _ (lt-ltb b (length bits) h);
    }
