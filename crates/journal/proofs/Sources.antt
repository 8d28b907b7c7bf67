-- The cell that gives a pair's mark, by what it is among the others.
use Rattle.std.proofs.Common.{◌≡◌, ℕ, zero, suc, ◌+◌, ◌<◌, true, false, not, ◌&&◌, eqb, ◌≢◌, ◌⊎◌, List, length, set, Some, None, Option, sym, refl, ap, ◌∙◌, subst, inl, inr, ⊎_elim, add-one, arith}
use Rattle.std.specs.Option.{option_map}
use Rattle.std.proofs.lemmas.Bool.Decides.{nat_tests, not_from_Decides}
use Rattle.std.proofs.lemmas.Bool.{cases_eq, cases_order, cases_Bool, and_parts, and_cases, true≢false, eq-eqb, both_ways, cond-true, cond-false, eqb-true, not-true, or_from, or_left, or_right}
use Rattle.std.proofs.lemmas.List.{get_or-set_same, get_or-set_other, length-set}
use Rattle.marks.specs.declared.mark.Pair.{Pair}
use Rattle.marks.specs.declared.mark.Position.{Position}
use Rattle.marks.specs.declared.mark.Mark.{Mark}
use Rattle.marks.specs.declared.mark.Record.{Record}
use Rattle.marks.specs.declared.mark.Cell.{Cell}
use Rattle.marks.specs.declared.mark.Cell.TheVariants.{Blank, Torn, Held}
use Rattle.marks.specs.Positions.{before, above, same_pair}
use Rattle.marks.specs.Device.{cell_at}
use Rattle.marks.proofs.Pairs.{pair_decides}
use Rattle.journal.specs.declared.source.Source.{Source}
use Rattle.journal.specs.Journals.{record_of, Highest, IsSource, overtakes, supersedes, passing, source_to, source_in, comes_from, free_cell, is_free, any_free}

-- the order of positions

pub before_irr : (a : Position) → before a a ≡ false
before_irr a = grind (arith, nat_tests)

pub before_asym : (a b : Position) → before a b ≡ true → before b a ≡ false
before_asym a b h = grind (arith, nat_tests)

pub before_le : (a b c : Position) → before a b ≡ false → before a c ≡ true → before b c ≡ true
before_le a b c h k = grind (arith, nat_tests)

-- passing cells

pub source_more : (cs : List Cell) (p : Pair) (i : ℕ) → source_to cs p (i + 1) ≡ passing p i (source_to cs p i) (cell_at cs i)
unfolding source_to
source_more cs p i = ap (λ n. source_to cs p n) (add-one i)

pub source_step : (cs : List Cell) (p : Pair) (i : ℕ) (b r : Option Source) (c : Cell) → r ≡ passing p i b c → b ≡ source_to cs p i → c ≡ cell_at cs i → r ≡ source_to cs p (i + 1)
source_step cs p i b r c e f h = e ∙ ap (λ x. passing p i x c) f ∙ ap (λ x. passing p i (source_to cs p i) x) h ∙ sym (source_more cs p i)

-- a record that becomes the source, one that does not, and a cell with no record
pub source_taken : (cs : List Cell) (p : Pair) (i : ℕ) (b : Option Source) (r : Record) → true ≡ supersedes p b r → b ≡ source_to cs p i → Held r ≡ cell_at cs i → Some (record { cell = i; mark = r.mark }) ≡ source_to cs p (i + 1)
source_taken cs p i b r over f h = source_step cs p i b _ (Held r) (sym (cond-true (supersedes p b r) _ _ (sym over))) f h

pub source_left : (cs : List Cell) (p : Pair) (i : ℕ) (b : Option Source) (r : Record) → false ≡ supersedes p b r → b ≡ source_to cs p i → Held r ≡ cell_at cs i → b ≡ source_to cs p (i + 1)
source_left cs p i b r under f h = source_step cs p i b b (Held r) (sym (cond-false (supersedes p b r) _ _ (sym under))) f h

pub source_kept : (cs : List Cell) (p : Pair) (i : ℕ) (b : Option Source) (c : Cell) → ((r : Record) → c ≡ Held r → ⊥) → b ≡ source_to cs p i → c ≡ cell_at cs i → b ≡ source_to cs p (i + 1)
source_kept cs p i b Blank never f h = source_step cs p i b b Blank refl f h
source_kept cs p i b Torn never f h = source_step cs p i b b Torn refl f h
source_kept cs p i b (Held r) never f h = absurd (never r refl)

last : (j n : ℕ) → j < suc n → (j < n) ⊎ (j ≡ n)
last j n h = ⊎_elim (λ e. inr e) (⊎_elim (λ k. inl k) (λ k. absurd (omega arith))) (cases_order j n)

module _ (cs : List Cell) (p : Pair) (n : ℕ) where
  -- a cell that does not overtake changes nothing
  keep : (b : Option Source) → ((m : Mark) → cell_at cs n ≡ Held (record_of p m) → overtakes b m ≡ false) → IsSource cs p n b → IsSource cs p (suc n) b
  keep None h i = λ j m l e. ⊎_elim (λ k. i j m k e) (λ k. true≢false (h m (subst (λ x. cell_at cs x ≡ Held (record_of p m)) k e))) (last j n l)
  keep (Some b) h i = record {
    inside = omega (arith, i.inside);
    holds = i.holds;
    highest = λ j m l e. ⊎_elim (λ k. i.highest j m k e) (λ k. h m (subst (λ x. cell_at cs x ≡ Held (record_of p m)) k e)) (last j n l);
    lowest = i.lowest;
  }

  above-all : (b : Option Source) (m : Mark) → overtakes b m ≡ true → IsSource cs p n b → (j : ℕ) (o : Mark) → j < n → cell_at cs j ≡ Held (record_of p o) → before o.position m.position ≡ true
  above-all None m h i = λ j o l e. absurd (i j o l e)
  above-all (Some b) m h i = λ j o l e. before_le b.mark.position o.position m.position (i.highest j o l e) h

  held-mark : (m o : Mark) (c : Cell) → c ≡ Held (record_of p m) → c ≡ Held (record_of p o) → m ≡ o
  held-mark m o c e f = let g : record_of p m ≡ record_of p o = cc in ap (λ x. x.mark) g

  -- a cell that overtakes is the source
  grow : (b : Option Source) (m : Mark) → cell_at cs n ≡ Held (record_of p m) → overtakes b m ≡ true → IsSource cs p n b → IsSource cs p (suc n) (Some (record { cell = n; mark = m }))
  grow b m e h i = record {
    inside = omega arith;
    holds = e;
    highest = λ j o l f. ⊎_elim (λ k. before_asym o.position m.position (above-all b m h i j o k f)) (λ k. subst (λ x. before m.position x.position ≡ false) (held-mark m o (cell_at cs n) e (subst (λ x. cell_at cs x ≡ Held (record_of p o)) k f)) (before_irr m.position)) (last j n l);
    lowest = λ j o l f. above-all b m h i j o l f;
  }

never_blank : (r : Record) → Blank ≡ Held r → ⊥
never_blank r e = let z : ◌≡◌ {A = ℕ} 0 1 = cc in omega arith

pub never-torn : (r : Record) → Torn ≡ Held r → ⊥
never-torn r e = let z : ◌≡◌ {A = ℕ} 0 1 = cc in omega arith

pub held-pair : (r : Record) (p : Pair) (m : Mark) → Held r ≡ Held (record_of p m) → (r.pair ≡ p) × (r.mark ≡ m)
held-pair r p m e = let f : r ≡ record_of p m = cc in (ap (λ x. x.pair) f, ap (λ x. x.mark) f)

step_source : (cs : List Cell) (p : Pair) (n : ℕ) (b : Option Source) (c : Cell) → cell_at cs n ≡ c → IsSource cs p n b → IsSource cs p (suc n) (passing p n b c)
step_source cs p n b Blank e i = keep cs p n b (λ m f. absurd (never_blank (record_of p m) (sym e ∙ f))) i
step_source cs p n b Torn e i = keep cs p n b (λ m f. absurd (never-torn (record_of p m) (sym e ∙ f))) i
step_source cs p n b (Held r) e i =
    let t = same_pair p r.pair && overtakes b r.mark in
    ⊎_elim
    (λ h.
    let hs = and_parts _ _ h in
    let pe : p ≡ r.pair = (pair_decides p r.pair).0 hs.0 in
    let re : Held r ≡ Held (record_of p r.mark) = ap (λ x. Held (record_of x r.mark)) (sym pe) in
    subst (λ x. IsSource cs p (suc n) x) (sym (cond-true t _ _ h)) (grow cs p n b r.mark (e ∙ re) hs.1 i))
    (λ h.
    subst (λ x. IsSource cs p (suc n) x) (sym (cond-false t _ _ h))
    (keep cs p n b
    (λ m f.
    let pm = held-pair r p m (sym e ∙ f) in
    ⊎_elim
    (λ s. absurd (not_from_Decides (same_pair p r.pair) (pair_decides p r.pair) s (sym pm.0)))
    (λ s. subst (λ x. overtakes b x ≡ false) pm.1 s)
    (and_cases _ _ h))
    i))
    (cases_Bool t)

pub is_source : (cs : List Cell) (p : Pair) (n : ℕ) → IsSource cs p n (source_to cs p n)
unfolding source_to
is_source cs p zero = λ j m l e. absurd (omega arith)
is_source cs p (suc n) = step_source cs p n (source_to cs p n) (cell_at cs n) refl (is_source cs p n)

source_same : {a a' : ℕ} {m m' : Mark} → a ≡ a' → m ≡ m' → ◌≡◌ {A = Option Source} (Some (record { cell = a; mark = m })) (Some (record { cell = a'; mark = m' }))
source_same e f = cc

pub unique : (cs : List Cell) (p : Pair) (n : ℕ) (a b : Option Source) → IsSource cs p n a → IsSource cs p n b → a ≡ b
unique cs p n None None h k = refl
unique cs p n None (Some b) h k = absurd (h b.cell b.mark k.inside k.holds)
unique cs p n (Some a) None h k = absurd (k a.cell a.mark h.inside h.holds)
unique cs p n (Some a) (Some b) h k =
    ⊎_elim
    (λ e. source_same e (held-mark cs p n a.mark b.mark (cell_at cs a.cell) h.holds (subst (λ x. cell_at cs x ≡ Held (record_of p b.mark)) (sym e) k.holds)))
    (⊎_elim
    (λ l. absurd (both_ways _ (h.highest b.cell b.mark k.inside k.holds) (k.lowest a.cell a.mark l h.holds)))
    (λ l. absurd (both_ways _ (k.highest a.cell a.mark h.inside h.holds) (h.lowest b.cell b.mark l k.holds))))
    (cases_order a.cell b.cell)

-- a change of one cell

module _ (cs : List Cell) (k : ℕ) (inside : k < length cs) where
  -- what is not at k is as it was
  elsewhere : (c : Cell) (j : ℕ) (x : Cell) → j ≢ k → cell_at (set cs k c) j ≡ x → cell_at cs j ≡ x
  elsewhere c j x ne e = sym (get_or-set_other cs k j c Torn ne) ∙ e

  module _ (c : Cell) (q : Pair) (none : (m : Mark) → c ≡ Held (record_of q m) → ⊥) where
    -- the changed cell holds no record of q
    not_here : (j : ℕ) (m : Mark) → j ≡ k → cell_at (set cs k c) j ≡ Held (record_of q m) → ⊥
    not_here j m jk e = none m (sym (get_or-set_same cs k c Torn inside) ∙ subst (λ x. cell_at (set cs k c) x ≡ Held (record_of q m)) jk e)

    same_source : (n : ℕ) (b : Option Source) → (comes_from b k ≡ false) → IsSource cs q n b → IsSource (set cs k c) q n b
    same_source n None g i = λ j m l e. ⊎_elim (λ jk. not_here j m jk e) (λ ne. i j m l (elsewhere c j _ ne e)) (cases_eq j k)
    same_source n (Some b) g i =
        let apart : b.cell ≢ k = λ e. both_ways _ g (eq-eqb b.cell k e) in
        record {
          inside = i.inside;
          holds = get_or-set_other cs k b.cell c Torn apart ∙ i.holds;
          highest = λ j m l e. ⊎_elim (λ jk. absurd (not_here j m jk e)) (λ ne. i.highest j m l (elsewhere c j _ ne e)) (cases_eq j k);
          lowest = λ j m l e. ⊎_elim (λ jk. absurd (not_here j m jk e)) (λ ne. i.lowest j m l (elsewhere c j _ ne e)) (cases_eq j k);
        }

  -- a free cell gives no pair's mark
  pub free-gives : (q : Pair) → is_free cs k ≡ true → (b : Option Source) → source_in cs q ≡ b → IsSource cs q (length cs) b → comes_from b k ≡ false
  free-gives q f None e i = refl
  free-gives q f (Some b) e i =
      ⊎_elim
      (λ t.
      let at : b.cell ≡ k = eqb-true b.cell k t in
      let here : cell_at cs k ≡ Held (record_of q b.mark) = subst (λ x. cell_at cs x ≡ Held (record_of q b.mark)) at i.holds in
      let g : not (comes_from (source_in cs q) k) ≡ true = subst (λ x. free_cell cs k x ≡ true) here f in
      let g' : not (eqb b.cell k) ≡ true = subst (λ x. not (comes_from x k) ≡ true) e g in
      absurd (both_ways _ (not-true _ g') t))
      (λ t. t)
      (cases_Bool (eqb b.cell k))

  pub change_keeps : (c : Cell) (q : Pair) → is_free cs k ≡ true → ((m : Mark) → c ≡ Held (record_of q m) → ⊥) → source_in (set cs k c) q ≡ source_in cs q
  change_keeps c q f none =
      ap (λ n. source_to (set cs k c) q n) (length-set cs k c)
      ∙ unique (set cs k c) q (length cs) _ _ (is_source (set cs k c) q (length cs))
      (same_source c q none (length cs) (source_in cs q) (free-gives q f (source_in cs q) refl (is_source cs q (length cs))) (is_source cs q (length cs)))

  pub change_raises : (p : Pair) (m : Mark) → overtakes (source_in cs p) m ≡ true → source_in (set cs k (Held (record_of p m))) p ≡ Some (record { cell = k; mark = m })
  change_raises p m h =
      let c = Held (record_of p m) in
      let low : (j : ℕ) (o : Mark) → j < length cs → j ≢ k → cell_at (set cs k c) j ≡ Held (record_of p o) → before o.position m.position ≡ true = λ j o l ne e. above-all cs p (length cs) (source_in cs p) m h (is_source cs p (length cs)) j o l (elsewhere c j _ ne e) in
      let top : Highest (set cs k c) p (length cs) (record { cell = k; mark = m }) = record {
        inside = inside;
        holds = get_or-set_same cs k c Torn inside;
        highest = λ j o l e.
            ⊎_elim
            (λ jk. subst (λ x. before m.position x.position ≡ false) (held-mark cs p 0 m o (cell_at (set cs k c) k) (get_or-set_same cs k c Torn inside) (subst (λ x. cell_at (set cs k c) x ≡ Held (record_of p o)) jk e)) (before_irr m.position))
            (λ ne. before_asym o.position m.position (low j o l ne e))
            (cases_eq j k);
        lowest = λ j o l e. let ne : j ≢ k = omega arith in let lj : j < length cs = omega arith in low j o lj ne e;
      } in
      ap (λ n. source_to (set cs k c) p n) (length-set cs k c)
      ∙ unique (set cs k c) p (length cs) _ _ (is_source (set cs k c) p (length cs)) top

pub above-overtakes : (b : Option Source) (m : Mark) → above (option_map (λ s. s.mark) b) m.position ≡ overtakes b m
above-overtakes None m = refl
above-overtakes (Some b) m = refl

-- some cell is free

pub any_none : (cs : List Cell) (n : ℕ) → ((j : ℕ) → j < n → is_free cs j ≡ false) → any_free cs n ≡ false
unfolding any_free
any_none cs zero h = refl
any_none cs (suc n) h = or_from _ _ (any_none cs n (λ j l. h j (omega arith))) (h n (omega arith))

pub any_some : (cs : List Cell) (n k : ℕ) → k < n → is_free cs k ≡ true → any_free cs n ≡ true
unfolding any_free
any_some cs zero k l f = absurd (omega arith)
any_some cs (suc n) k l f = ⊎_elim (λ b. or_left _ _ (any_some cs n k b f)) (λ e. or_right _ _ (subst (λ x. is_free cs x ≡ true) e f)) (last k n l)
