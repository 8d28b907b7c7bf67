-- Keys that ascend are apart; what the stored places hold.
use Rattle.std.proofs.Common.{◌≡◌, ℕ, zero, suc, ◌+◌, ◌-◌, ◌<◌, ◌≤◌, Bool, true, false, ◌&&◌, eqb, ◌≢◌, ◌⊎◌, List, [], ◌∷◌, length, get_or, set, Some, sym, refl, ap, ◌∙◌, subst, ⊎_elim, add-one, arith, length-set, get_or-set_other, get_or-set_same}
use Rattle.std.proofs.lemmas.Slice.Eq.{bytes_eq-Decides}
use Rattle.std.proofs.lemmas.Bool.{and_parts, or_from, or_left, or_right, cases_Bool, true≢false, eq-eqb}
use Rattle.std.proofs.lemmas.Bool.Decides.{nat_tests, eqb_tells}
use Rattle.std.specs.Str.{bytes_eq}
use Rattle.items.specs.Keys.{span, before, above, has, chain, judged}
use Rattle.items.specs.Stored.{keys_of, Kept}

not_before : (xs : List ℕ) → before xs xs ≡ false
not_before [] = refl
not_before (x ∷ xs) = let e : eqb x x ≡ true = eq-eqb x x refl in rw e (not_before xs)

heads-before : (x y : ℕ) (xs ys : List ℕ) → before (x ∷ xs) (y ∷ ys) ≡ true → (x < y) ⊎ ((x ≡ y) × (before xs ys ≡ true))
heads-before x y xs ys h = grind (arith, nat_tests)

less_before : (x y : ℕ) (xs ys : List ℕ) → x < y → before (x ∷ xs) (y ∷ ys) ≡ true
less_before x y xs ys h = grind (arith, nat_tests)

same-before : (x y : ℕ) (xs ys : List ℕ) → x ≡ y → before xs ys ≡ true → before (x ∷ xs) (y ∷ ys) ≡ true
same-before x y xs ys e h = grind (arith, nat_tests)

before_trans : (xs ys zs : List ℕ) → before xs ys ≡ true → before ys zs ≡ true → before xs zs ≡ true
before_trans [] [] zs h k = absurd (true≢false (sym h))
before_trans [] (y ∷ ys) [] h k = absurd (true≢false (sym k))
before_trans [] (y ∷ ys) (z ∷ zs) h k = refl
before_trans (x ∷ xs) [] zs h k = absurd (true≢false (sym h))
before_trans (x ∷ xs) (y ∷ ys) [] h k = absurd (true≢false (sym k))
before_trans (x ∷ xs) (y ∷ ys) (z ∷ zs) h k = ⊎_elim
    (λ (l : x < y). ⊎_elim
    (λ (m : y < z). less_before x z xs zs (omega arith))
    (λ (m : (y ≡ z) × (before ys zs ≡ true)). less_before x z xs zs (omega (arith, m.0)))
    (heads-before y z ys zs k))
    (λ (l : (x ≡ y) × (before xs ys ≡ true)). ⊎_elim
    (λ (m : y < z). less_before x z xs zs (omega (arith, l.0)))
    (λ (m : (y ≡ z) × (before ys zs ≡ true)). same-before x z xs zs (l.0 ∙ m.0) (before_trans xs ys zs l.1 m.1))
    (heads-before y z ys zs k))
    (heads-before x y xs ys h)

apart : (x k : List ℕ) → before x k ≡ true → bytes_eq x k ≡ false
apart x k h = ⊎_elim
    (λ (e : bytes_eq x k ≡ true).
    let same = (bytes_eq-Decides x k).0 e in
    absurd (true≢false (sym h ∙ ap (λ y. before x y) (sym same) ∙ not_before x)))
    (λ e. e)
    (cases_Bool (bytes_eq x k))

above_more : (ks : List (List ℕ)) (x k : List ℕ) → above ks x ≡ true → before x k ≡ true → above ks k ≡ true
above_more [] x k h b = refl
above_more (y ∷ ys) x k h b = before_trans y x k h b

-- a key above the newest of keys that ascend is none of them
pub chain-new : (ks : List (List ℕ)) (k : List ℕ) → chain ks ≡ true → above ks k ≡ true → has ks k ≡ false
chain-new [] k c a = refl
chain-new (x ∷ xs) k c a =
    let p = and_parts (chain xs) (above xs x) c in
    or_from (bytes_eq x k) (has xs k) (apart x k a) (chain-new xs k p.0 (above_more xs x k p.1 a))

module _ (os ps qs : List ℕ) (k : List ℕ) where
  -- with one of the first so many, with one of more
  pub has_more : (i n : ℕ) → i ≤ n → has (keys_of os ps qs i) k ≡ true → has (keys_of os ps qs n) k ≡ true
  has_more i zero l h = let e : i ≡ 0 = omega arith in subst (λ j. has (keys_of os ps qs j) k ≡ true) e h
  has_more i (suc n) l h = ⊎_elim
      (λ z. subst (λ j. has (keys_of os ps qs j) k ≡ true) z.1 h)
      (λ z. or_right (bytes_eq (span os (get_or ps n 0) (get_or qs n 0)) k) (has (keys_of os ps qs n) k) (has_more i n (let ne = z.1 in omega arith) h))
      (eqb_tells i (suc n))

  pub has_here : (i n : ℕ) → i < n → bytes_eq (span os (get_or ps i 0) (get_or qs i 0)) k ≡ true → has (keys_of os ps qs n) k ≡ true
  has_here i n l h = has_more (suc i) n (omega arith) (or_left _ (has (keys_of os ps qs i) k) h)

  pub has_not : (i : ℕ) → has (keys_of os ps qs i) k ≡ false → bytes_eq (span os (get_or ps i 0) (get_or qs i 0)) k ≡ false → has (keys_of os ps qs (i + 1)) k ≡ false
  has_not i h s = rw add-one (or_from _ _ s h)

-- a store at m leaves the first m
pub keys_set : (os ps qs : List ℕ) (m p q n : ℕ) → n ≤ m → keys_of os (set ps m p) (set qs m q) n ≡ keys_of os ps qs n
keys_set os ps qs m p q zero l = refl
keys_set os ps qs m p q (suc n) l =
    let ne : n ≢ m = omega arith in
    let a : get_or (set ps m p) n 0 ≡ get_or ps n 0 = get_or-set_other ps m n p 0 ne in
    let b : get_or (set qs m q) n 0 ≡ get_or qs n 0 = get_or-set_other qs m n q 0 ne in
    rw (a, b) (ap (λ r. span os (get_or ps n 0) (get_or qs n 0) ∷ r) (keys_set os ps qs m p q n (omega arith)))

pub keys_add : (os ps qs : List ℕ) (m p q : ℕ) → m < length ps → m < length qs → keys_of os (set ps m p) (set qs m q) (m + 1) ≡ span os p q ∷ keys_of os ps qs m
keys_add os ps qs m p q l r =
    let a : get_or (set ps m p) m 0 ≡ p = get_or-set_same ps m p 0 l in
    let b : get_or (set qs m q) m 0 ≡ q = get_or-set_same qs m q 0 r in
    rw (add-one, a, b) (ap (λ x. span os p q ∷ x) (keys_set os ps qs m p q m (omega arith)))

pub above-last : (os ps qs : List ℕ) (n : ℕ) (k : List ℕ) → (n ≡ 0 → ⊥) → above (keys_of os ps qs n) k ≡ before (span os (get_or ps (n - 1) 0) (get_or qs (n - 1) 0)) k
above-last os ps qs n k some =
    let e : n ≡ suc (n - 1) = omega arith in
    ap (λ j. above (keys_of os ps qs j) k) e

pub judged-new : (ks : List (List ℕ)) (k : List ℕ) (u : Bool) → u ≡ above ks k → has ks k ≡ false → Some u ≡ judged ks k
judged-new ks k u e h = rw (h, e)

module _ (os ps qs : List ℕ) (n : ℕ) (sorted : Bool) (kept : Kept os ps qs n sorted) (room : n < 64) (p q : ℕ) (le : p ≤ q) (in-it : q ≤ length os) where
  pub held_new : keys_of os (set ps n p) (set qs n q) (n + 1) ≡ span os p q ∷ keys_of os ps qs n
  held_new = keys_add os ps qs n p q (omega (arith, kept.starts_long)) (omega (arith, kept.ends_long))

  at_new : (i : ℕ) → i < n + 1 → (get_or (set ps n p) i 0 ≤ get_or (set qs n q) i 0) × (get_or (set qs n q) i 0 ≤ length os)
  at_new i l = ⊎_elim
      (λ z.
      let a : get_or (set ps n p) i 0 ≡ p = ap (λ j. get_or (set ps n p) j 0) z.1 ∙ get_or-set_same ps n p 0 (omega (arith, kept.starts_long)) in
      let b : get_or (set qs n q) i 0 ≡ q = ap (λ j. get_or (set qs n q) j 0) z.1 ∙ get_or-set_same qs n q 0 (omega (arith, kept.ends_long)) in
      (omega arith, omega arith))
      (λ z.
      let ne : i ≢ n = z.1 in
      let a = get_or-set_other ps n i p 0 ne in
      let b = get_or-set_other qs n i q 0 ne in
      let k : i < n = omega arith in
      (omega (arith, a, b, kept.ordered i k), omega (arith, b, kept.within i k)))
      (eqb_tells i n)

  pub kept_new : (b : Bool) → b ≡ (sorted && above (keys_of os ps qs n) (span os p q)) → Kept os (set ps n p) (set qs n q) (n + 1) b
  kept_new b is = record {
    few = omega arith;
    ordered = λ i l. (at_new i l).0;
    within = λ i l. (at_new i l).1;
    sorted_is = is ∙ ap (λ s. s && above (keys_of os ps qs n) (span os p q)) kept.sorted_is ∙ ap chain (sym held_new);
    starts_long = length-set ps n p ∙ kept.starts_long;
    ends_long = length-set qs n q ∙ kept.ends_long;
  }
