-- How an item is read, step by step.
use Rattle.std.proofs.Common.{◌≡◌, ℕ, zero, suc, ◌+◌, ◌-◌, ◌<◌, ◌≤◌, Bool, true, false, cond, ◌&&◌, eqb, leb, List, [], ◌∷◌, length, Some, None, Ok, Err, Option, Result, sym, refl, ap, ◌∙◌, subst, ⊎_elim, arith}
use Rattle.text.specs.Table.{is_text}
use Rattle.std.proofs.lemmas.Bool.Decides.{nat_tests, eqb_tells}
use Rattle.items.specs.declared.types.Fault.{Fault}
use Rattle.items.specs.declared.types.Fault.TheVariants.{Malformed}
use Rattle.items.specs.Keys.{span, judged}
use Rattle.items.specs.Heads.{Head, head_at, head_size, fault_at, after, part, skipped, text_read}
use Rattle.items.specs.Reading.{Walk, move_to, also, items_of, judged_key, entries_of, simple, body_of, past_head, item_with, inside, item_of, array_items, map_entries, containers, start_at, read_of}
use Rattle.items.specs.Walks.{Told}

module _ (os : List ℕ) (p n : ℕ) where
  pub text-fits : p + n ≤ length os → is_text (part os p n) ≡ true → text_read os p n ≡ Ok (p + n)
  unfolding text_read
  text-fits k t = rw t (grind (arith, nat_tests))

  pub text_bad : p + n ≤ length os → is_text (part os p n) ≡ false → text_read os p n ≡ Err Malformed
  unfolding text_read
  text_bad k t = rw t (grind (arith, nat_tests))

  pub text-short : length os < p + n → text_read os p n ≡ Err Malformed
  unfolding text_read
  text-short k = grind (arith, nat_tests)

  pub skip_fits : p + n ≤ length os → skipped os p n ≡ Ok (p + n)
  unfolding skipped
  skip_fits k = grind (arith, nat_tests)

  pub skip_short : length os < p + n → skipped os p n ≡ Err Malformed
  unfolding skipped
  skip_short k = grind (arith, nat_tests)

module _ (d : ℕ) (os : List ℕ) (w : Walk) where
  pub item_none : w.left ≡ 0 → item_of d os w ≡ Err (fault_at os w.place)
  unfolding item_of item_with
  item_none z = rw z

  module _ (some : w.left ≡ 0 → ⊥) where
    pub item_no_head : (e : Fault) → Err e ≡ head_at os w.place → item_of d os w ≡ Err e
    unfolding item_of item_with
    item_no_head e is = rw (sym is) (grind (arith, nat_tests))

    pub item_goes : (h : Head) (q : ℕ) → Ok h ≡ head_at os w.place → q ≡ w.place + head_size os w.place → item_of d os w ≡ body_of (inside d os) os h (record { place = q; left = w.left - 1; deterministic = w.deterministic && h.shortest })
    unfolding item_of item_with
    item_goes h q is moved = rw (sym is, moved) (grind (arith, nat_tests))

module _ (inner : Bool → ℕ → Walk → Result Walk Fault) (os : List ℕ) (h : Head) (u : Walk) where
  pub body-number : h.major ≤ 1 → body_of inner os h u ≡ Ok u
  unfolding body_of
  body-number k = grind (arith, nat_tests)

  pub body_bytes : h.major ≡ 2 → body_of inner os h u ≡ after (skipped os u.place h.argument) (λ q. Ok (move_to u q))
  unfolding body_of
  body_bytes k = grind (arith, nat_tests)

  pub body-text : h.major ≡ 3 → body_of inner os h u ≡ after (text_read os u.place h.argument) (λ q. Ok (move_to u q))
  unfolding body_of
  body-text k = grind (arith, nat_tests)

  pub body-array : h.major ≡ 4 → body_of inner os h u ≡ inner false h.argument u
  unfolding body_of
  body-array k = grind (arith, nat_tests)

  pub body_map : h.major ≡ 5 → body_of inner os h u ≡ inner true h.argument u
  unfolding body_of
  body_map k = grind (arith, nat_tests)

  pub body-simple : 5 < h.major → simple h ≡ true → body_of inner os h u ≡ Ok u
  unfolding body_of
  body-simple k is-simple = grind (arith, nat_tests)

  pub body-other : 5 < h.major → simple h ≡ false → body_of inner os h u ≡ Err Malformed
  unfolding body_of
  body-other k is-not = grind (arith, nat_tests)

module _ (d : ℕ) (os : List ℕ) (n : ℕ) (u : Walk) where
  pub inside-none : (is_map : Bool) → d ≡ 0 → inside d os is_map n u ≡ Err Malformed
  unfolding inside
  inside-none is_map z = rw z

  pub inside-array : (d ≡ 0 → ⊥) → inside d os false n u ≡ items_of (item_of (d - 1) os) os n array_items u
  unfolding inside item_of
  inside-array some = let e : d ≡ suc (d - 1) = omega arith in let P : ℕ → Type 0 = λ k. inside k os false n u ≡ items_of (item_of (d - 1) os) os n array_items u in subst P (sym e) refl

  pub inside-map : (d ≡ 0 → ⊥) → inside d os true n u ≡ entries_of (item_of (d - 1) os) os n map_entries [] u
  unfolding inside item_of
  inside-map some = let e : d ≡ suc (d - 1) = omega arith in let P : ℕ → Type 0 = λ k. inside k os true n u ≡ entries_of (item_of (d - 1) os) os n map_entries [] u in subst P (sym e) refl

-- a container where none may lie, a tag, a float or another simple value
pub body_refused : (d : ℕ) (os : List ℕ) (h : Head) (u : Walk) → 3 < h.major → (h.major ≡ 4 → d ≡ 0) → (h.major ≡ 5 → d ≡ 0) → simple h ≡ false → body_of (inside d os) os h u ≡ Err Malformed
body_refused d os h u big array-shut map-shut is-not = ⊎_elim
    (λ z. body-array (inside d os) os h u z.1 ∙ inside-none d os h.argument u false (array-shut z.1))
    (λ z. ⊎_elim
    (λ y. body_map (inside d os) os h u y.1 ∙ inside-none d os h.argument u true (map-shut y.1))
    (λ y. let m = z.1 in let n = y.1 in body-other (inside d os) os h u (omega arith) is-not)
    (eqb_tells h.major 5))
    (eqb_tells h.major 4)

-- what is left of an array at its i-th item
module _ (f : Walk → Result Walk Fault) (os : List ℕ) (n room i : ℕ) (w : Walk) where
  pub items_beyond : i < n → i ≡ room → items_of f os (n - i) (room - i) w ≡ Err (fault_at os w.place)
  unfolding items_of
  items_beyond some over =
      let e : n - i ≡ suc (n - (i + 1)) = omega arith in
      let z : room - i ≡ 0 = omega arith in
      rw (e, z)

  pub items_done : n ≤ i → items_of f os (n - i) (room - i) w ≡ Ok w
  unfolding items_of
  items_done done = let e : n - i ≡ 0 = omega arith in rw e

  module _ (some : i < n) (fits : i < room) where
    items_one : items_of f os (n - i) (room - i) w ≡ after (f w) (items_of f os (n - (i + 1)) (room - (i + 1)))
    unfolding items_of
    items_one =
        let e : n - i ≡ suc (n - (i + 1)) = omega arith in
        let z : room - i ≡ suc (room - (i + 1)) = omega arith in
        rw (e, z)

    pub items_fails : (e : Fault) → f w ≡ Err e → items_of f os (n - i) (room - i) w ≡ Err e
    items_fails e is = items_one ∙ rw is

    pub items_on : (u : Walk) → f w ≡ Ok u → items_of f os (n - i) (room - i) w ≡ items_of f os (n - (i + 1)) (room - (i + 1)) u
    items_on u is = items_one ∙ rw is

abbrev pub key_from : List ℕ → Walk → Walk → List ℕ
key_from os w u = span os w.place u.place

-- what is left of a map at its i-th entry
module _ (f : Walk → Result Walk Fault) (os : List ℕ) (n room i : ℕ) (ks : List (List ℕ)) (w : Walk) where
  pub entries_beyond : i < n → i ≡ room → entries_of f os (n - i) (room - i) ks w ≡ Err (fault_at os w.place)
  unfolding entries_of
  entries_beyond some over =
      let e : n - i ≡ suc (n - (i + 1)) = omega arith in
      let z : room - i ≡ 0 = omega arith in
      rw (e, z)

  pub entries_done : n ≤ i → entries_of f os (n - i) (room - i) ks w ≡ Ok w
  unfolding entries_of
  entries_done done = let e : n - i ≡ 0 = omega arith in rw e

  module _ (some : i < n) (fits : i < room) where
    abbrev later : List ℕ → Walk → Result Walk Fault
    later k = entries_of f os (n - (i + 1)) (room - (i + 1)) (k ∷ ks)

    entries_one : entries_of f os (n - i) (room - i) ks w ≡ after (f w) (λ u. judged_key (judged ks (key_from os w u)) u (λ v. after (f v) (later (key_from os w u))))
    unfolding entries_of
    entries_one =
        let e : n - i ≡ suc (n - (i + 1)) = omega arith in
        let z : room - i ≡ suc (room - (i + 1)) = omega arith in
        rw (e, z)

    pub entries_fails : (e : Fault) → f w ≡ Err e → entries_of f os (n - i) (room - i) ks w ≡ Err e
    entries_fails e is = entries_one ∙ rw is

    module _ (u : Walk) (is : f w ≡ Ok u) where
      entries-two : entries_of f os (n - i) (room - i) ks w ≡ judged_key (judged ks (key_from os w u)) u (λ v. after (f v) (later (key_from os w u)))
      entries-two = entries_one ∙ rw is

      pub entries_twice : None ≡ judged ks (key_from os w u) → entries_of f os (n - i) (room - i) ks w ≡ Err Malformed
      entries_twice j = entries-two ∙ ap (λ o. judged_key o u (λ v. after (f v) (later (key_from os w u)))) (sym j)

      module _ (up : Bool) (j : Some up ≡ judged ks (key_from os w u)) where
        entries_three : entries_of f os (n - i) (room - i) ks w ≡ after (f (also u up)) (later (key_from os w u))
        entries_three = entries-two ∙ ap (λ o. judged_key o u (λ v. after (f v) (later (key_from os w u)))) (sym j)

        pub entries_value_fails : (e : Fault) → f (also u up) ≡ Err e → entries_of f os (n - i) (room - i) ks w ≡ Err e
        entries_value_fails e vs = entries_three ∙ ap (λ r. after r (later (key_from os w u))) vs

        pub entries_on : (v : Walk) → f (also u up) ≡ Ok v → entries_of f os (n - i) (room - i) ks w ≡ later (key_from os w u) v
        entries_on v vs = entries_three ∙ ap (λ r. after r (later (key_from os w u))) vs

-- an item does not go back
abbrev Fwd : ℕ → Result Walk Fault → Type 0
Fwd p (Ok v) = p ≤ v.place
Fwd p (Err e) = Unit {0}

abbrev Going : (Walk → Result Walk Fault) → Type 0
Going f = (w : Walk) → Fwd w.place (f w)

fwd_cond : (p : ℕ) (t : Bool) (a b : Result Walk Fault) → Fwd p a → Fwd p b → Fwd p (cond t a b)
fwd_cond p true a b x y = x
fwd_cond p false a b x y = y

fwd_less : (p q : ℕ) → p ≤ q → (r : Result Walk Fault) → Fwd q r → Fwd p r
fwd_less p q l (Err e) x = tt
fwd_less p q l (Ok v) x = omega arith

fwd_after : (p : ℕ) (r : Result Walk Fault) (g : Walk → Result Walk Fault) → Fwd p r → Going g → Fwd p (after r g)
fwd_after p (Err e) g x k = tt
fwd_after p (Ok v) g x k = fwd_less p v.place x (g v) (k v)

fwd_items : (f : Walk → Result Walk Fault) (os : List ℕ) → Going f → (n room : ℕ) → Going (items_of f os n room)
unfolding items_of
fwd_items f os k zero room w = omega arith
fwd_items f os k (suc n) zero w = tt
fwd_items f os k (suc n) (suc room) w = fwd_after w.place (f w) (items_of f os n room) (k w) (fwd_items f os k n room)

fwd_judged : (o : Option Bool) (g : Walk → Result Walk Fault) → Going g → (u : Walk) → Fwd u.place (judged_key o u g)
fwd_judged None g k u = tt
fwd_judged (Some up) g k u = k (also u up)

fwd_entries : (f : Walk → Result Walk Fault) (os : List ℕ) → Going f → (n room : ℕ) (ks : List (List ℕ)) → Going (entries_of f os n room ks)
unfolding entries_of
fwd_entries f os k zero room ks w = omega arith
fwd_entries f os k (suc n) zero ks w = tt
fwd_entries f os k (suc n) (suc room) ks w = fwd_after w.place (f w) _ (k w) (λ u. fwd_judged (judged ks (key_from os w u)) _ (λ v. fwd_after v.place (f v) _ (k v) (fwd_entries f os k n room (key_from os w u ∷ ks))) u)

fwd_moved : (w : Walk) (r : Result ℕ Fault) → ((q : ℕ) → r ≡ Ok q → w.place ≤ q) → Fwd w.place (after r (λ q. Ok (move_to w q)))
fwd_moved w (Ok q) k = k q refl
fwd_moved w (Err e) k = tt

cond_ok : (t : Bool) (p q : ℕ) (r : Result ℕ Fault) → ((x : ℕ) → r ≡ Ok x → x ≡ p) → cond t r (Err Malformed) ≡ Ok q → q ≡ p
cond_ok true p q r k e = k q e
cond_ok false p q r k e = let z : ◌≡◌ {A = ℕ} 0 1 = cc in absurd (omega arith)

ok_same : (p x : ℕ) → ◌≡◌ {A = Result ℕ Fault} (Ok p) (Ok x) → x ≡ p
ok_same p x e = cc

skip_is : (os : List ℕ) (p n q : ℕ) → skipped os p n ≡ Ok q → q ≡ p + n
unfolding skipped
skip_is os p n q e = cond_ok (leb (p + n) (length os)) (p + n) q (Ok (p + n)) (ok_same (p + n)) e

text-is : (os : List ℕ) (p n q : ℕ) → text_read os p n ≡ Ok q → q ≡ p + n
unfolding text_read
text-is os p n q e = cond_ok (leb (p + n) (length os)) (p + n) q _ (λ x. cond_ok (is_text (part os p n)) (p + n) x (Ok (p + n)) (ok_same (p + n))) e

fwd_body : (inner : Bool → ℕ → Walk → Result Walk Fault) (os : List ℕ) (h : Head) → ((is_map : Bool) (n : ℕ) → Going (inner is_map n)) → Going (body_of inner os h)
unfolding body_of
fwd_body inner os h k w =
    fwd_cond _ (leb h.major 1) _ _ (omega arith)
    (fwd_cond _ (eqb h.major 2) _ _ (fwd_moved w (skipped os w.place h.argument) (λ q e. omega (arith, skip_is os w.place h.argument q e)))
    (fwd_cond _ (eqb h.major 3) _ _ (fwd_moved w (text_read os w.place h.argument) (λ q e. omega (arith, text-is os w.place h.argument q e)))
    (fwd_cond _ (eqb h.major 4) _ _ (k false h.argument w)
    (fwd_cond _ (eqb h.major 5) _ _ (k true h.argument w)
    (fwd_cond _ (simple h) _ _ (omega arith) tt)))))

fwd_item : (inner : Bool → ℕ → Walk → Result Walk Fault) (os : List ℕ) → ((is_map : Bool) (n : ℕ) → Going (inner is_map n)) → Going (item_with inner os)
unfolding item_with
fwd_item inner os k w = fwd_cond _ (eqb w.left 0) _ _ tt (by (head_at os w.place))
  where
    by : (r : Result Head Fault) → Fwd w.place (after r (λ h. body_of inner os h (past_head os w h)))
    by (Err e) = tt
    by (Ok h) = fwd_less w.place (w.place + head_size os w.place) (omega arith) (body_of inner os h (past_head os w h)) (fwd_body inner os h k (past_head os w h))

fwd_inside : (d : ℕ) (os : List ℕ) (is_map : Bool) (n : ℕ) → Going (inside d os is_map n)
unfolding inside
fwd_inside zero os is_map n w = tt
fwd_inside (suc d) os false n w = fwd_items (item_with (inside d os) os) os (fwd_item (inside d os) os (fwd_inside d os)) n array_items w
fwd_inside (suc d) os true n w = fwd_entries (item_with (inside d os) os) os (fwd_item (inside d os) os (fwd_inside d os)) n map_entries [] w

pub item_forward : (d : ℕ) (os : List ℕ) (w v : Walk) → item_of d os w ≡ Ok v → w.place ≤ v.place
unfolding item_of
item_forward d os w v is = subst (Fwd w.place) is (fwd_item (inside d os) os (fwd_inside d os) w)

-- the whole
module _ (os : List ℕ) where
  module _ (w : Walk) (is : item_of containers os (start_at 0) ≡ Ok w) where
    pub read-ends : w.place ≡ length os → Ok (record { deterministic = w.deterministic }) ≡ read_of os
    unfolding read_of
    read-ends e = rw is (grind (arith, nat_tests))

-- a fault handed on by `?`
pub told_fault : {X : Type 0} (r : Result X Fault) (e e' : Fault) (came : Result Walk Fault) (w : Walk) → r ≡ Err e → e ≡ e' → came ≡ Err e' → Told r came w
told_fault {X = X} r e e' came w is same m = let P : Result X Fault → Type 0 = λ x. Told x came w in subst P (sym (is ∙ ap Err same)) m
