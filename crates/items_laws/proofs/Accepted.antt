-- What is read with every head shortest and the keys ascending is the encoding of a tree within the limits.
use Rattle.std.proofs.Common.{◌≡◌, ℕ, zero, suc, ◌+◌, ◌-◌, ◌*◌, ◌/◌, ◌%◌, ◌^◌, ◌<◌, ◌≤◌, Bool, true, false, ◌&&◌, leb, List, [], ◌∷◌, ◌++◌, length, get_or, take, drop, Some, None, Ok, Err, Option, Result, sym, refl, ap, ◌∙◌, subst, ⊎_elim, append-nil, add-zero, pow-suc, arith, lit<, length-append, length-drop, length-take-le, get_or-drop, get_or-take}
use Rattle.std.proofs.lemmas.List.{get_or_append_left, get_or-append-add, get_or_at}
use Rattle.std.proofs.lemmas.Bool.Decides.{nat_tests, eqb_tells}
use Rattle.std.proofs.lemmas.Bool.{cases_Bool, and_parts}
use Rattle.std.proofs.str.Laws.{order}
use Rattle.text.specs.Table.{is_text}
use Rattle.items.specs.declared.types.Fault.{Fault}
use Rattle.items.specs.declared.types.Fault.TheVariants.{Malformed, Indefinite}
use Rattle.items.specs.Keys.{span, above, has, judged}
use Rattle.items.specs.Heads.{Head, big_endian, width, least, long_head, head_from, head_at, head_size, fault_at, after, part, skipped, text_read}
use Rattle.items.specs.Reading.{Walk, move_to, also, items_of, judged_key, entries_of, simple, body_of, inside, item_of, array_items, map_entries}
use Rattle.items.specs.Trees.{octets_of, head_of, Item, unsigned, negative, bytes, text, array, map, simple_false, simple_true, simple_null, Items, no_items, next_item, Entries, no_entries, next_entry, array_size, map_size, encoding, items_encoding, entries_encoding, total, items_total, entries_total, ascending, items_ascending, entries_ascending, Within, ItemsWithin, EntriesWithin, At}
use Rattle.items.proofs.Steps.{item_none, item_no_head, item_goes, body-number, body_bytes, body-text, body-array, body_map, body-simple, body-other, inside-none, key_from, skip_fits, skip_short, text-fits, text_bad, text-short}
use Rattle.items_laws.proofs.Written.{length-octets}
use Rattle.items_laws.proofs.Backs.{both_true, key_at_lem}

pub ok_same : {X : Type 0} {x y : X} → ◌≡◌ {A = Result X Fault} (Ok x) (Ok y) → x ≡ y
ok_same e = cc

pub never : {X : Type 0} {r : Result X Fault} {e : Fault} {x : X} → r ≡ Err e → r ≡ Ok x → ⊥
never p q = let z : ◌≡◌ {A = ℕ} 0 1 = cc in omega arith

module _ (os : List ℕ) (octet : (i : ℕ) → get_or os i 0 < 256) where
  number_lt : (p k : ℕ) → big_endian os p k < 256 ^ k
  number_lt p zero = lit< tt
  number_lt p (suc k) = rw pow-suc (omega (arith, number_lt p k, octet (p + k)))

  at_more : (p : ℕ) (xs : List ℕ) → At os p xs → p + length xs < length os → At os p (xs ++ (get_or os (p + length xs) 0 ∷ []))
  at_more p xs a room =
      let y : ℕ = get_or os (p + length xs) 0 in
      let l = length-append xs (y ∷ []) in
      record {
        within = omega (arith, l);
        same = λ i h. ⊎_elim
            (λ lt. a.same i lt ∙ sym (get_or_append_left xs (y ∷ []) 0 i lt))
            (λ ge. let e : i ≡ length xs = omega (arith, l) in ap (λ k. get_or os (p + k) 0) e ∙ sym (get_or_at xs y [] 0 i (sym e)))
            (order i (length xs));
      }

  at_cons : (p x : ℕ) (xs : List ℕ) → get_or os p 0 ≡ x → p < length os → At os (p + 1) xs → At os p (x ∷ xs)
  at_cons p x xs first some a = record {
    within = omega (arith, a.within);
    same = λ i h. go i h;
  }
    where
      go : (i : ℕ) → i < length (x ∷ xs) → get_or os (p + i) 0 ≡ get_or (x ∷ xs) i 0
      go zero h = ap (λ k. get_or os k 0) (add-zero p) ∙ first
      go (suc i) h = let e : p + suc i ≡ p + 1 + i = omega arith in ap (λ k. get_or os k 0) e ∙ a.same i (omega arith)

  octets_at_lem : (p k : ℕ) → p + k ≤ length os → At os p (octets_of k (big_endian os p k))
  octets_at_lem p zero h = record { within = omega arith; same = λ i lt. absurd (omega arith) }
  octets_at_lem p (suc k) h =
      let v : ℕ = big_endian os p k in
      let b : ℕ = get_or os (p + k) 0 in
      let o = octet (p + k) in
      let q : (v * 256 + b) / 256 ≡ v = omega (arith, o) in
      let m : (v * 256 + b) % 256 ≡ b = omega (arith, o) in
      let l = length-octets k v in
      let step = at_more p (octets_of k v) (octets_at_lem p k (omega arith)) (omega arith) in
      rw (q, m) (subst (λ j. At os p (octets_of k v ++ (get_or os (p + j) 0 ∷ []))) l step)

  pub record Wrote (p : ℕ) (h : Head) : Type 0 where
    pub at : At os p (head_of h.major h.argument)
    pub long : head_size os p ≡ length (head_of h.major h.argument)
    pub fits : h.argument < 2 ^ 64

  module _ (p : ℕ) (h : Head) (is : head_at os p ≡ Ok h) (shortest : h.shortest ≡ true) (some : p < length os) where
    narrow : get_or os p 0 % 32 < 24 → Wrote p h
    unfolding head_at head_from head_size head_of
    narrow few =
        let m : ℕ = get_or os p 0 / 32 in
        let n : ℕ = get_or os p 0 % 32 in
        let got : head_at os p ≡ Ok (record { major = m; argument = n; shortest = true }) = grind (arith, nat_tests) in
        let e : h ≡ record { major = m; argument = n; shortest = true } = cc in
        let shape : head_of m n ≡ (32 * m + n) ∷ [] = grind (arith, nat_tests) in
        let size : head_size os p ≡ 1 = grind (arith, nat_tests) in
        let a : At os p ((32 * m + n) ∷ []) = at_cons p (32 * m + n) [] (omega arith) some (record { within = omega arith; same = λ i lt. absurd (omega arith) }) in
        subst (Wrote p) (sym e) (record { at = subst (At os p) (sym shape) a; long = size ∙ sym (ap length shape); fits = omega arith })

    wide : (info : ℕ) → get_or os p 0 % 32 ≡ info → 24 ≤ info → info < 28 → width info ≤ 8
        → ((m n : ℕ) → least info ≤ n → n < 256 ^ width info → head_of m n ≡ (32 * m + info) ∷ octets_of (width info) n)
        → ((n : ℕ) → n < 256 ^ width info → n < 2 ^ 64)
        → Wrote p h
    unfolding head_at head_from long_head head_size
    wide info r low high eight shape top =
        let m : ℕ = get_or os p 0 / 32 in
        let n : ℕ = big_endian os (p + 1) (width info) in
        ⊎_elim
        (λ (in-it : p + width info < length os).
        let got : head_at os p ≡ Ok (record { major = m; argument = n; shortest = leb (least info) n }) = rw r (grind (arith, nat_tests)) in
        let e : h ≡ record { major = m; argument = n; shortest = leb (least info) n } = cc in
        let t : leb (least info) n ≡ true = cc in
        let over : least info ≤ n = grind (arith, nat_tests) in
        let lt = number_lt (p + 1) (width info) in
        let s = shape m n over lt in
        let size : head_size os p ≡ 1 + width info = rw r (grind (arith, nat_tests)) in
        let a = at_cons p (32 * m + info) (octets_of (width info) n) (omega arith) some (octets_at_lem (p + 1) (width info) (omega arith)) in
        let l = length-octets (width info) n in
        subst (Wrote p) (sym e) (record { at = subst (At os p) (sym s) a; long = size ∙ omega (arith, ap length s); fits = top n lt }))
        (λ (out : length os ≤ p + width info).
        let bad : head_at os p ≡ Err Malformed = rw r (grind (arith, nat_tests)) in
        absurd (never bad is))
        (order (p + width info) (length os))

  pub head-wrote : (p : ℕ) (h : Head) → head_at os p ≡ Ok h → h.shortest ≡ true → Wrote p h
  unfolding head_at head_from head_of
  head-wrote p h is shortest = ⊎_elim
      (λ (some : p < length os).
      ⊎_elim (λ few. narrow p h is shortest some few) (λ (ge24 : 24 ≤ get_or os p 0 % 32).
      ⊎_elim (λ (lt : get_or os p 0 % 32 < 25). wide p h is shortest some 24 (omega arith) (omega arith) (omega arith) (omega arith) (λ m n a f. grind (arith, nat_tests)) (λ n f. omega arith)) (λ (ge25 : 25 ≤ get_or os p 0 % 32).
      ⊎_elim (λ (lt : get_or os p 0 % 32 < 26). wide p h is shortest some 25 (omega arith) (omega arith) (omega arith) (omega arith) (λ m n a f. grind (arith, nat_tests)) (λ n f. omega arith)) (λ (ge26 : 26 ≤ get_or os p 0 % 32).
      ⊎_elim (λ (lt : get_or os p 0 % 32 < 27). wide p h is shortest some 26 (omega arith) (omega arith) (omega arith) (omega arith) (λ m n a f. grind (arith, nat_tests)) (λ n f. omega arith)) (λ (ge27 : 27 ≤ get_or os p 0 % 32).
      ⊎_elim (λ (lt : get_or os p 0 % 32 < 28). wide p h is shortest some 27 (omega arith) (omega arith) (omega arith) (omega arith) (λ m n a f. grind (arith, nat_tests)) (λ n f. omega arith)) (λ (ge28 : 28 ≤ get_or os p 0 % 32).
      ⊎_elim
      (λ (lt : get_or os p 0 % 32 < 31). let bad : head_at os p ≡ Err Malformed = grind (arith, nat_tests) in absurd (never bad is))
      (λ (ge : 31 ≤ get_or os p 0 % 32). let bad : head_at os p ≡ Err Indefinite = grind (arith, nat_tests) in absurd (never bad is))
      (order (get_or os p 0 % 32) 31))
      (order (get_or os p 0 % 32) 28))
      (order (get_or os p 0 % 32) 27))
      (order (get_or os p 0 % 32) 26))
      (order (get_or os p 0 % 32) 25))
      (order (get_or os p 0 % 32) 24))
      (λ (out : length os ≤ p). let bad : head_at os p ≡ Err Malformed = grind (arith, nat_tests) in absurd (never bad is))
      (order p (length os))

  pub at_both : (p : ℕ) (xs ys : List ℕ) → At os p xs → At os (p + length xs) ys → At os p (xs ++ ys)
  at_both p xs ys a b =
      let l = length-append xs ys in
      record {
        within = omega (arith, l, b.within);
        same = λ i h. ⊎_elim
            (λ (lt : i < length xs). a.same i lt ∙ sym (get_or_append_left xs ys 0 i lt))
            (λ (ge : length xs ≤ i).
            let j : ℕ = i - length xs in
            let e : i ≡ length xs + j = omega arith in
            let f : p + i ≡ p + length xs + j = omega arith in
            ap (λ k. get_or os k 0) f ∙ b.same j (omega (arith, l)) ∙ sym (get_or-append-add xs ys j 0) ∙ ap (λ k. get_or (xs ++ ys) k 0) (sym e))
            (order i (length xs));
      }

  pub at_slice : (p n : ℕ) → p + n ≤ length os → At os p (take n (drop p os)) × (length (take n (drop p os)) ≡ n)
  at_slice p n h =
      let l : n ≤ length (drop p os) = omega (arith, length-drop p os) in
      let e = length-take-le n (drop p os) l in (
        record {
          within = omega (arith, e);
          same = λ i lt. sym (get_or-take n (drop p os) i 0 (omega (arith, e)) ∙ get_or-drop p os i 0);
        },
        e,
      )

  pub record Tree (d : ℕ) (w v : Walk) : Type 0 where
    pub tree : Item
    pub at : At os w.place (encoding tree)
    pub on : v.place ≡ w.place + length (encoding tree)
    pub left_by : w.left ≡ v.left + total tree
    pub within : Within tree d
    pub ascends : ascending tree ≡ true
    pub before : w.deterministic ≡ true

  abbrev pub Sound : ℕ → Type 0
  Sound d = (w v : Walk) → item_of d os w ≡ Ok v → v.deterministic ≡ true → Tree d w v

  record Seq (d n room : ℕ) (w v : Walk) : Type 0 where
    items : Items
    sized : array_size items ≡ n
    fits : n ≤ room
    at : w.place ≤ length os → At os w.place (items_encoding items)
    on : v.place ≡ w.place + length (items_encoding items)
    left_by : w.left ≡ v.left + items_total items
    within : ItemsWithin items d
    ascends : items_ascending items ≡ true
    before : w.deterministic ≡ true

  nothing : (q : ℕ) → q ≤ length os → At os q []
  nothing q k = record { within = omega arith; same = λ i lt. absurd (omega arith) }

  -- one more before the rest
  seq_step : (d : ℕ) → Sound d → (n room : ℕ) (w v : Walk) → ((u : Walk) → items_of (item_of d os) os n room u ≡ Ok v → Seq d n room u v) → (r : Result Walk Fault) → item_of d os w ≡ r → after r (items_of (item_of d os) os n room) ≡ Ok v → Seq d (suc n) (suc room) w v
  unfolding encoding total ascending Within
  seq_step d sound n room w v later (Err e) eq is = absurd (never {e = e} refl is)
  seq_step d sound n room w v later (Ok u) eq is =
      let rest = later u is in
      let first = sound w u eq rest.before in
      let l = length-append (encoding first.tree) (items_encoding rest.items) in
      record {
        items = next_item first.tree rest.items;
        sized = ap suc rest.sized;
        fits = omega (arith, rest.fits);
        at = λ inside-it. at_both w.place _ _ first.at (subst (λ q. At os q (items_encoding rest.items)) first.on (rest.at (omega (arith, first.on, first.at.within))));
        on = omega (arith, rest.on, first.on, l);
        left_by = omega (arith, rest.left_by, first.left_by);
        within = (first.within, rest.within);
        ascends = both_true (ascending first.tree) (items_ascending rest.items) first.ascends rest.ascends;
        before = first.before;
      }

  items-sound : (d : ℕ) → Sound d → (n room : ℕ) (w v : Walk) → items_of (item_of d os) os n room w ≡ Ok v → v.deterministic ≡ true → Seq d n room w v
  unfolding items_of encoding total ascending Within
  items-sound d sound zero room w v is s =
      let e : v ≡ w = cc in
      subst (λ x. Seq d 0 room w x) (sym e) (record { items = no_items; sized = refl; fits = omega arith; at = nothing w.place; on = omega arith; left_by = omega arith; within = tt; ascends = refl; before = ap (λ x. x.deterministic) (sym e) ∙ s })
  items-sound d sound (suc n) zero w v is s = absurd (never {e = fault_at os w.place} refl is)
  items-sound d sound (suc n) (suc room) w v is s = seq_step d sound n room w v (λ u eq. items-sound d sound n room u v eq s) (item_of d os w) refl is

  record EntrySeq (d n room : ℕ) (ks : List (List ℕ)) (w v : Walk) : Type 0 where
    entries : Entries
    sized : map_size entries ≡ n
    fits : n ≤ room
    at : w.place ≤ length os → At os w.place (entries_encoding entries)
    on : v.place ≡ w.place + length (entries_encoding entries)
    left_by : w.left ≡ v.left + entries_total entries
    within : EntriesWithin entries d
    ascends : entries_ascending ks entries ≡ true
    before : w.deterministic ≡ true

  judged-back : (ks : List (List ℕ)) (k : List ℕ) (up : Bool) → judged ks k ≡ Some up → up ≡ above ks k
  judged-back ks k up j = by (has ks k) refl
    where
      by : (b : Bool) → has ks k ≡ b → up ≡ above ks k
      by true e = let n : judged ks k ≡ None = rw e in let z : ◌≡◌ {A = ℕ} 0 1 = cc in absurd (omega arith)
      by false e = let n : judged ks k ≡ Some (above ks k) = rw e in cc

  -- one more entry before the rest
  module _ (d : ℕ) (sound : Sound d) (n room : ℕ) (ks : List (List ℕ)) (w v : Walk) (later : (k : List ℕ) (u : Walk) → entries_of (item_of d os) os n room (k ∷ ks) u ≡ Ok v → EntrySeq d n room (k ∷ ks) u v) where
    entry_value : (u : Walk) → item_of d os w ≡ Ok u → (up : Bool) → judged ks (key_from os w u) ≡ Some up → (r : Result Walk Fault) → item_of d os (also u up) ≡ r → after r (entries_of (item_of d os) os n room (key_from os w u ∷ ks)) ≡ Ok v → EntrySeq d (suc n) (suc room) ks w v
    unfolding encoding total ascending Within
    entry_value u eq up j (Err e) vs is = absurd (never {e = e} refl is)
    entry_value u eq up j (Ok x) vs is =
        let rest = later (key_from os w u) x is in
        let second = sound (also u up) x vs rest.before in
        let good = and_parts u.deterministic up second.before in
        let first = sound w u eq good.0 in
        let k = first.tree in
        let t = second.tree in
        let es = rest.entries in
        let e : key_from os w u ≡ encoding k = ap (span os w.place) first.on ∙ key_at_lem os w.place (encoding k) first.at in
        let rises : above ks (encoding k) ≡ true = ap (above ks) (sym e) ∙ sym (judged-back ks (key_from os w u) up j) ∙ good.1 in
        let l = length-append (encoding k) (encoding t ++ entries_encoding es) in
        let m = length-append (encoding t) (entries_encoding es) in
        let tail : entries_ascending (encoding k ∷ ks) es ≡ true = subst (λ y. entries_ascending (y ∷ ks) es ≡ true) e rest.ascends in
        record {
          entries = next_entry k t es;
          sized = ap suc rest.sized;
          fits = omega (arith, rest.fits);
          at = λ inside-it. at_both w.place (encoding k) (encoding t ++ entries_encoding es) first.at
              (subst (λ q. At os q (encoding t ++ entries_encoding es)) first.on
              (at_both u.place (encoding t) (entries_encoding es) second.at (subst (λ q. At os q (entries_encoding es)) second.on (rest.at (omega (arith, second.on, second.at.within))))));
          on = omega (arith, rest.on, second.on, first.on, l, m);
          left_by = omega (arith, rest.left_by, second.left_by, first.left_by);
          within = (first.within, second.within, rest.within);
          ascends = both_true (ascending k) _ first.ascends (both_true (above ks (encoding k)) _ rises (both_true (ascending t) _ second.ascends tail));
          before = first.before;
        }

    entry_key : (u : Walk) → item_of d os w ≡ Ok u → (o : Option Bool) → judged ks (key_from os w u) ≡ o → judged_key o u (λ x. after (item_of d os x) (entries_of (item_of d os) os n room (key_from os w u ∷ ks))) ≡ Ok v → EntrySeq d (suc n) (suc room) ks w v
    entry_key u eq None j is = absurd (never {e = Malformed} refl is)
    entry_key u eq (Some up) j is = entry_value u eq up j (item_of d os (also u up)) refl is

    entry-step : (r : Result Walk Fault) → item_of d os w ≡ r → after r (λ u. judged_key (judged ks (key_from os w u)) u (λ x. after (item_of d os x) (entries_of (item_of d os) os n room (key_from os w u ∷ ks)))) ≡ Ok v → EntrySeq d (suc n) (suc room) ks w v
    entry-step (Err e) eq is = absurd (never {e = e} refl is)
    entry-step (Ok u) eq is = entry_key u eq (judged ks (key_from os w u)) refl is

  entries-sound : (d : ℕ) → Sound d → (n room : ℕ) (ks : List (List ℕ)) (w v : Walk) → entries_of (item_of d os) os n room ks w ≡ Ok v → v.deterministic ≡ true → EntrySeq d n room ks w v
  unfolding entries_of encoding total ascending Within
  entries-sound d sound zero room ks w v is s =
      let e : v ≡ w = cc in
      subst (λ x. EntrySeq d 0 room ks w x) (sym e) (record { entries = no_entries; sized = refl; fits = omega arith; at = nothing w.place; on = omega arith; left_by = omega arith; within = tt; ascends = refl; before = ap (λ x. x.deterministic) (sym e) ∙ s })
  entries-sound d sound (suc n) zero ks w v is s = absurd (never {e = fault_at os w.place} refl is)
  entries-sound d sound (suc n) (suc room) ks w v is s = entry-step d sound n room ks w v (λ k u eq. entries-sound d sound n room (k ∷ ks) u v eq s) (item_of d os w) refl is

  record InsideSound (d : ℕ) : Type 0 where
    of_array : (n : ℕ) (u v : Walk) → inside d os false n u ≡ Ok v → v.deterministic ≡ true → (1 ≤ d) × Seq (d - 1) n array_items u v
    of_map : (n : ℕ) (u v : Walk) → inside d os true n u ≡ Ok v → v.deterministic ≡ true → (1 ≤ d) × EntrySeq (d - 1) n map_entries [] u v

  module _ (d : ℕ) (w v : Walk) (h : Head) (r : head_at os w.place ≡ Ok h) (some : w.left ≡ 0 → ⊥) where
    abbrev next : Walk
    next = record { place = w.place + head_size os w.place; left = w.left - 1; deterministic = w.deterministic && h.shortest }

    -- the head, and what it is followed by
    finish : (t : Item) (m : ℕ) (tail : List ℕ) → h.major ≡ m → encoding t ≡ head_of m h.argument ++ tail → (next.place ≤ length os → At os next.place tail) → v.place ≡ next.place + length tail → w.left ≡ v.left + total t → Within t d → ascending t ≡ true → next.deterministic ≡ true → Tree d w v
    finish t m tail major shape tail_at on by within ascends s =
        let both = and_parts w.deterministic h.shortest s in
        let wrote = head-wrote w.place h r both.1 in
        let a : At os w.place (head_of m h.argument) = subst (λ k. At os w.place (head_of k h.argument)) major wrote.at in
        let l : head_size os w.place ≡ length (head_of m h.argument) = wrote.long ∙ ap (λ k. length (head_of k h.argument)) major in
        let end-in : next.place ≤ length os = omega (arith, a.within, l) in
        let b : At os (w.place + length (head_of m h.argument)) tail = subst (λ k. At os (w.place + k) tail) l (tail_at end-in) in
        let long = ap length shape ∙ length-append (head_of m h.argument) tail in
        record {
          tree = t;
          at = subst (At os w.place) (sym shape) (at_both w.place (head_of m h.argument) tail a b);
          on = omega (arith, on, l, long);
          left_by = by;
          within = within;
          ascends = ascends;
          before = both.0;
        }

    fitting : next.deterministic ≡ true → h.argument < 2 ^ 64
    fitting s = (head-wrote w.place h r (and_parts w.deterministic h.shortest s).1).fits

    module _ (e : v ≡ next) (s : v.deterministic ≡ true) where
      sn : next.deterministic ≡ true
      sn = ap (λ x. x.deterministic) (sym e) ∙ s

      leaf : (t : Item) (m : ℕ) → h.major ≡ m → encoding t ≡ head_of m h.argument → total t ≡ 1 → ascending t ≡ true → Within t d → Tree d w v
      leaf t m major shape one flat within =
          finish t m [] major (shape ∙ sym (append-nil (head_of m h.argument))) (nothing next.place) (omega (arith, ap (λ x. x.place) e)) (omega (arith, ap (λ x. x.left) e, one)) within flat sn

      small : h.major < 2 → Tree d w v
      unfolding encoding total ascending Within
      small lt = ⊎_elim
          (λ (z : h.major < 1). leaf (unsigned h.argument) 0 (omega arith) refl refl refl (fitting sn))
          (λ (z : 1 ≤ h.major). leaf (negative h.argument) 1 (omega arith) refl refl refl (fitting sn))
          (order h.major 1)

      flags : h.major ≡ 7 → 20 ≤ h.argument → h.argument ≤ 22 → Tree d w v
      unfolding encoding total ascending Within head_of
      flags seven low high = ⊎_elim
          (λ (z : h.argument < 21). let k : h.argument ≡ 20 = omega arith in leaf simple_false 7 seven (ap (head_of 7) (sym k)) refl refl tt)
          (λ (z : 21 ≤ h.argument). ⊎_elim
          (λ (y : h.argument < 22). let k : h.argument ≡ 21 = omega arith in leaf simple_true 7 seven (ap (head_of 7) (sym k)) refl refl tt)
          (λ (y : 22 ≤ h.argument). let k : h.argument ≡ 22 = omega arith in leaf simple_null 7 seven (ap (head_of 7) (sym k)) refl refl tt)
          (order h.argument 22))
          (order h.argument 21)

    module _ (in-it : next.place + h.argument ≤ length os) (e : v ≡ move_to next (next.place + h.argument)) (s : v.deterministic ≡ true) where
      abbrev bs : List ℕ
      bs = part os next.place h.argument

      string : (t : Item) (m : ℕ) → h.major ≡ m → encoding t ≡ head_of m (length bs) ++ bs → total t ≡ 1 → ascending t ≡ true → (length bs < 2 ^ 64 → Within t d) → Tree d w v
      string t m major shape one flat within =
          let cut = at_slice next.place h.argument in-it in
          let sn : next.deterministic ≡ true = ap (λ x. x.deterministic) (sym e) ∙ s in
          let fit : length bs < 2 ^ 64 = omega (arith, cut.1, fitting sn) in
          let on : v.place ≡ next.place + length bs = omega (arith, cut.1, ap (λ x. x.place) e) in
          let by : w.left ≡ v.left + total t = omega (arith, ap (λ x. x.left) e, one) in
          finish t m bs major (shape ∙ ap (λ k. head_of m k ++ bs) cut.1) (λ _. cut.0) on by (within fit) flat sn

    strings : h.major ≡ 2 → after (skipped os next.place h.argument) (λ q. Ok (move_to next q)) ≡ Ok v → v.deterministic ≡ true → Tree d w v
    unfolding encoding total ascending Within
    strings two is s = ⊎_elim
        (λ (out : length os < next.place + h.argument). absurd (never (ap (λ c. after c (λ q. Ok (move_to next q))) (skip_short os next.place h.argument out)) is))
        (λ (in-it : next.place + h.argument ≤ length os).
        let good = ap (λ c. after c (λ q. Ok (move_to next q))) (skip_fits os next.place h.argument in-it) in
        let e : v ≡ move_to next (next.place + h.argument) = ok_same (sym is ∙ good) in
        string in-it e s (bytes (part os next.place h.argument)) 2 two refl refl refl (λ fit. fit))
        (order (length os) (next.place + h.argument))

    texts : h.major ≡ 3 → after (text_read os next.place h.argument) (λ q. Ok (move_to next q)) ≡ Ok v → v.deterministic ≡ true → Tree d w v
    unfolding encoding total ascending Within
    texts three is s = ⊎_elim
        (λ (out : length os < next.place + h.argument). absurd (never (ap (λ c. after c (λ q. Ok (move_to next q))) (text-short os next.place h.argument out)) is))
        (λ (in-it : next.place + h.argument ≤ length os). ⊎_elim
        (λ (t : is_text (part os next.place h.argument) ≡ true).
        let good = ap (λ c. after c (λ q. Ok (move_to next q))) (text-fits os next.place h.argument in-it t) in
        let e : v ≡ move_to next (next.place + h.argument) = ok_same (sym is ∙ good) in
        string in-it e s (text (part os next.place h.argument)) 3 three refl refl refl (λ fit. (fit, t)))
        (λ (t : is_text (part os next.place h.argument) ≡ false).
        absurd (never (ap (λ c. after c (λ q. Ok (move_to next q))) (text_bad os next.place h.argument in-it t)) is))
        (cases_Bool (is_text (part os next.place h.argument))))
        (order (length os) (next.place + h.argument))

    arrays : InsideSound d → h.major ≡ 4 → inside d os false h.argument next ≡ Ok v → v.deterministic ≡ true → Tree d w v
    unfolding encoding total ascending Within
    arrays inner major is s =
        let got = inner.of_array h.argument next v is s in
        let q = got.1 in
        let sz = q.sized in
        finish (array q.items) 4 (items_encoding q.items) major (ap (λ k. head_of 4 k ++ items_encoding q.items) sz) q.at q.on (omega (arith, q.left_by)) (omega (arith, sz, q.fits), got.0, q.within) q.ascends q.before

    maps : InsideSound d → h.major ≡ 5 → inside d os true h.argument next ≡ Ok v → v.deterministic ≡ true → Tree d w v
    unfolding encoding total ascending Within
    maps inner major is s =
        let got = inner.of_map h.argument next v is s in
        let q = got.1 in
        let sz = q.sized in
        finish (map q.entries) 5 (entries_encoding q.entries) major (ap (λ k. head_of 5 k ++ entries_encoding q.entries) sz) q.at q.on (omega (arith, q.left_by)) (omega (arith, sz, q.fits), got.0, q.within) q.ascends q.before

    rest_of : 5 < h.major → (b : Bool) → simple h ≡ b → body_of (inside d os) os h next ≡ Ok v → v.deterministic ≡ true → Tree d w v
    rest_of big true eq is s =
        let good = body-simple (inside d os) os h next big eq in
        let e : v ≡ next = cc in
        flags e s (grind (arith, nat_tests)) (grind (arith, nat_tests)) (grind (arith, nat_tests))
    rest_of big false eq is s = absurd (never (body-other (inside d os) os h next big eq) is)

    by-major : InsideSound d → body_of (inside d os) os h next ≡ Ok v → v.deterministic ≡ true → Tree d w v
    by-major inner is s =
        ⊎_elim (λ (z : h.major < 2). let good = body-number (inside d os) os h next (omega arith) in let e : v ≡ next = cc in small e s z) (λ (z₂ : 2 ≤ h.major).
        ⊎_elim (λ (z : h.major < 3). let k : h.major ≡ 2 = omega arith in strings k (sym (body_bytes (inside d os) os h next k) ∙ is) s) (λ (z₃ : 3 ≤ h.major).
        ⊎_elim (λ (z : h.major < 4). let k : h.major ≡ 3 = omega arith in texts k (sym (body-text (inside d os) os h next k) ∙ is) s) (λ (z₄ : 4 ≤ h.major).
        ⊎_elim (λ (z : h.major < 5). let k : h.major ≡ 4 = omega arith in arrays inner k (sym (body-array (inside d os) os h next k) ∙ is) s) (λ (z₅ : 5 ≤ h.major).
        ⊎_elim (λ (z : h.major < 6). let k : h.major ≡ 5 = omega arith in maps inner k (sym (body_map (inside d os) os h next k) ∙ is) s)
        (λ (z₆ : 6 ≤ h.major). rest_of z₆ (simple h) refl is s)
        (order h.major 6))
        (order h.major 5))
        (order h.major 4))
        (order h.major 3))
        (order h.major 2)

  by-head : (d : ℕ) → InsideSound d → (w v : Walk) → item_of d os w ≡ Ok v → v.deterministic ≡ true → (w.left ≡ 0 → ⊥) → (r : Result Head Fault) → head_at os w.place ≡ r → Tree d w v
  by-head d inner w v is s some (Err e) eq = absurd (never (item_no_head d os w some e (sym eq)) is)
  by-head d inner w v is s some (Ok h) eq = by-major d w v h eq some inner (sym (item_goes d os w some h (w.place + head_size os w.place) (sym eq) refl) ∙ is) s

  step : (d : ℕ) → InsideSound d → Sound d
  step d inner w v is s = ⊎_elim
      (λ z. absurd (never (item_none d os w z.1) is))
      (λ z. by-head d inner w v is s z.1 (head_at os w.place) refl)
      (eqb_tells w.left 0)

  inside-sound : (d : ℕ) → InsideSound d
  unfolding inside item_of
  inside-sound zero = record {
    of_array = λ n u v is s. absurd (never (inside-none zero os n u false refl) is);
    of_map = λ n u v is s. absurd (never (inside-none zero os n u true refl) is);
  }
  inside-sound (suc d) =
      let e : d ≡ suc d - 1 = omega arith in
      let sound = step d (inside-sound d) in
      record {
        of_array = λ n u v is s. (omega arith, subst (λ k. Seq k n array_items u v) e (items-sound d sound n array_items u v is s));
        of_map = λ n u v is s. (omega arith, subst (λ k. EntrySeq k n map_entries [] u v) e (entries-sound d sound n map_entries [] u v is s));
      }

  -- what is read deterministically is the encoding of a tree
  pub item_sound : (d : ℕ) → Sound d
  item_sound d = step d (inside-sound d)
