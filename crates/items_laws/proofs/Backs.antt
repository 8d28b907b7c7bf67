-- A tree that is encoded is read back.
use Rattle.std.proofs.Common.{◌≡◌, ℕ, zero, suc, ◌+◌, ◌-◌, ◌≤◌, Bool, true, false, ◌&&◌, List, [], ◌∷◌, ◌++◌, length, Some, Ok, Option, Result, sym, refl, ap, ◌∙◌, arith, length-append}
use Rattle.std.proofs.lemmas.Bool.{and_parts}
use Rattle.text.specs.Table.{is_text}
use Rattle.items.specs.declared.types.Fault.{Fault}
use Rattle.items.specs.Keys.{span, above, has, chain, judged}
use Rattle.items.specs.Heads.{Head, after, part}
use Rattle.items.specs.Reading.{Walk, move_to, also, items_of, judged_key, entries_of, body_of, inside, item_of, array_items, map_entries}
use Rattle.items.specs.Trees.{Item, unsigned, negative, bytes, text, array, map, simple_false, simple_true, simple_null, Items, no_items, next_item, Entries, no_entries, next_entry, head_of, array_size, map_size, encoding, items_encoding, entries_encoding, total, items_total, entries_total, ascending, items_ascending, entries_ascending, Within, ItemsWithin, EntriesWithin, At}
use Rattle.items.proofs.Chains.{chain-new}
use Rattle.items.proofs.Steps.{item_goes, body-number, body_bytes, body-text, body-array, body_map, body-simple, inside-array, inside-map, key_from, skip_fits, text-fits}
use Rattle.items_laws.proofs.Written.{at_part, at_left, at_right, Reads, short, head-back}

-- a walk at p
abbrev pub walk : ℕ → ℕ → Bool → Walk
walk p left s = record { place = p; left = left; deterministic = s }

abbrev pub head : ℕ → ℕ → Head
head m n = record { major = m; argument = n; shortest = true }

pub and_true : (s : Bool) → s && true ≡ s
and_true true = refl
and_true false = refl

pub both_true : (a b : Bool) → a ≡ true → b ≡ true → a && b ≡ true
both_true a b x y = rw (x, y)

moved : (p q j k : ℕ) (s : Bool) → p ≡ q → j ≡ k → ◌≡◌ {A = Result Walk Fault} (Ok (walk p j s)) (Ok (walk q k s))
moved p q j k s e f = rw (e, f)

module _ (d : ℕ) (os : List ℕ) (p left : ℕ) (s : Bool) (some : 1 ≤ left) where
  begin : (m n len : ℕ) → Reads os p m n len → item_of d os (walk p left s) ≡ body_of (inside d os) os (head m n) (walk (p + len) (left - 1) s)
  begin m n len r =
      item_goes d os (walk p left s) (λ z. omega arith) (head m n) (p + len) (sym r.is) (ap (λ k. p + k) (sym r.long))
      ∙ ap (λ b. body_of (inside d os) os (head m n) (walk (p + len) (left - 1) b)) (and_true s)

items-first : (f : Walk → Result Walk Fault) (os : List ℕ) (n room : ℕ) (w u : Walk) → f w ≡ Ok u → items_of f os (suc n) (suc room) w ≡ items_of f os n room u
unfolding items_of
items-first f os n room w u is = rw is

judged-some : (ks : List (List ℕ)) (k : List ℕ) → has ks k ≡ false → above ks k ≡ true → judged ks k ≡ Some true
judged-some ks k h up = rw (h, up)

entries-first : (f : Walk → Result Walk Fault) (os : List ℕ) (n room : ℕ) (ks : List (List ℕ)) (w u v : Walk) (k : List ℕ) → f w ≡ Ok u → key_from os w u ≡ k → judged ks k ≡ Some true → f (also u true) ≡ Ok v → entries_of f os (suc n) (suc room) ks w ≡ entries_of f os n room (k ∷ ks) v
unfolding entries_of
entries-first f os n room ks w u v k is e new vs =
    let on : List ℕ → Option Bool → Result Walk Fault = λ l o. judged_key o u (λ x. after (f x) (entries_of f os n room (l ∷ ks))) in
    ap (λ r. after r (λ x. judged_key (judged ks (key_from os w x)) x (λ y. after (f y) (entries_of f os n room (key_from os w x ∷ ks))))) is
    ∙ ap (λ l. on l (judged ks l)) e
    ∙ ap (on k) new
    ∙ ap (λ r. after r (entries_of f os n room (k ∷ ks))) vs

-- the octets of a key that is encoded at p
pub key_at_lem : (os : List ℕ) (p : ℕ) (xs : List ℕ) → At os p xs → span os p (p + length xs) ≡ xs
key_at_lem os p xs a = let e : p + length xs - p ≡ length xs = omega arith in ap (part os p) e ∙ at_part os p xs a

mutual
  unfolding encoding total ascending Within items_of entries_of

  pub item_back : (t : Item) (os : List ℕ) (p d left : ℕ) (s : Bool) → Within t d → total t ≤ left → ascending t ≡ true → At os p (encoding t) → item_of d os (walk p left s) ≡ Ok (walk (p + length (encoding t)) (left - total t) s)
  item_back (unsigned n) os p d left s fits few up a =
      begin d os p left s few 0 n _ (head-back os p 0 n fits a) ∙ body-number _ _ _ _ (omega arith)
  item_back (negative n) os p d left s fits few up a =
      begin d os p left s few 1 n _ (head-back os p 1 n fits a) ∙ body-number _ _ _ _ (omega arith)
  item_back (bytes bs) os p d left s fits few up a =
      let h = head_of 2 (length bs) in
      let r = at_right os p h bs a in
      let l = length-append h bs in
      begin d os p left s few 2 (length bs) _ (head-back os p 2 (length bs) fits (at_left os p h bs a))
      ∙ body_bytes (inside d os) os (head 2 (length bs)) (walk (p + length h) (left - 1) s) refl
      ∙ ap (λ x. after x (λ q. Ok (move_to (walk (p + length h) (left - 1) s) q))) (skip_fits os (p + length h) (length bs) r.within)
      ∙ moved _ _ _ _ s (omega arith) refl
  item_back (text bs) os p d left s (fits, utf8) few up a =
      let h = head_of 3 (length bs) in
      let r = at_right os p h bs a in
      let l = length-append h bs in
      let t : is_text (part os (p + length h) (length bs)) ≡ true = ap is_text (at_part os (p + length h) bs r) ∙ utf8 in
      begin d os p left s few 3 (length bs) _ (head-back os p 3 (length bs) fits (at_left os p h bs a))
      ∙ body-text (inside d os) os (head 3 (length bs)) (walk (p + length h) (left - 1) s) refl
      ∙ ap (λ x. after x (λ q. Ok (move_to (walk (p + length h) (left - 1) s) q))) (text-fits os (p + length h) (length bs) r.within t)
      ∙ moved _ _ _ _ s (omega arith) refl
  item_back (array ts) os p d left s (short-enough, deep, inner) few up a =
      let h = head_of 4 (array_size ts) in
      let l = length-append h (items_encoding ts) in
      begin d os p left s (omega arith) 4 (array_size ts) _ (head-back os p 4 (array_size ts) (omega arith) (at_left os p h (items_encoding ts) a))
      ∙ body-array (inside d os) os (head 4 (array_size ts)) (walk (p + length h) (left - 1) s) refl
      ∙ inside-array d os (array_size ts) (walk (p + length h) (left - 1) s) (λ z. omega arith)
      ∙ items_back ts os (p + length h) (d - 1) (left - 1) s array_items inner (omega arith) up short-enough (at_right os p h (items_encoding ts) a)
      ∙ moved _ _ _ _ s (omega arith) (omega arith)
  item_back (map es) os p d left s (short-enough, deep, inner) few up a =
      let h = head_of 5 (map_size es) in
      let l = length-append h (entries_encoding es) in
      begin d os p left s (omega arith) 5 (map_size es) _ (head-back os p 5 (map_size es) (omega arith) (at_left os p h (entries_encoding es) a))
      ∙ body_map (inside d os) os (head 5 (map_size es)) (walk (p + length h) (left - 1) s) refl
      ∙ inside-map d os (map_size es) (walk (p + length h) (left - 1) s) (λ z. omega arith)
      ∙ entries-back es [] os (p + length h) (d - 1) (left - 1) s map_entries inner (omega arith) refl up short-enough (at_right os p h (entries_encoding es) a)
      ∙ moved _ _ _ _ s (omega arith) (omega arith)
  item_back simple_false os p d left s fits few up a =
      begin d os p left s few 7 20 1 (short os p 7 20 (omega arith) a) ∙ body-simple _ _ _ _ (omega arith) refl
  item_back simple_true os p d left s fits few up a =
      begin d os p left s few 7 21 1 (short os p 7 21 (omega arith) a) ∙ body-simple _ _ _ _ (omega arith) refl
  item_back simple_null os p d left s fits few up a =
      begin d os p left s few 7 22 1 (short os p 7 22 (omega arith) a) ∙ body-simple _ _ _ _ (omega arith) refl

  pub items_back : (ts : Items) (os : List ℕ) (p d left : ℕ) (s : Bool) (room : ℕ) → ItemsWithin ts d → items_total ts ≤ left → items_ascending ts ≡ true → array_size ts ≤ room → At os p (items_encoding ts) → items_of (item_of d os) os (array_size ts) room (walk p left s) ≡ Ok (walk (p + length (items_encoding ts)) (left - items_total ts) s)
  items_back no_items os p d left s room fits few up short-enough a = moved _ _ _ _ s (omega arith) (omega arith)
  items_back (next_item t ts) os p d left s zero (here, fits) few up short-enough a = absurd (omega arith)
  items_back (next_item t ts) os p d left s (suc room) (here, fits) few up short-enough a =
      let l = length-append (encoding t) (items_encoding ts) in
      let u = and_parts (ascending t) (items_ascending ts) up in
      items-first (item_of d os) os (array_size ts) room (walk p left s) (walk (p + length (encoding t)) (left - total t) s) (item_back t os p d left s here (omega arith) u.0 (at_left os p (encoding t) (items_encoding ts) a))
      ∙ items_back ts os (p + length (encoding t)) d (left - total t) s room fits (omega arith) u.1 (omega arith) (at_right os p (encoding t) (items_encoding ts) a)
      ∙ moved _ _ _ _ s (omega arith) (omega arith)

  pub entries-back : (es : Entries) (ks : List (List ℕ)) (os : List ℕ) (p d left : ℕ) (s : Bool) (room : ℕ) → EntriesWithin es d → entries_total es ≤ left → chain ks ≡ true → entries_ascending ks es ≡ true → map_size es ≤ room → At os p (entries_encoding es) → entries_of (item_of d os) os (map_size es) room ks (walk p left s) ≡ Ok (walk (p + length (entries_encoding es)) (left - entries_total es) s)
  entries-back no_entries ks os p d left s room fits few rising up short-enough a = moved _ _ _ _ s (omega arith) (omega arith)
  entries-back (next_entry k v es) ks os p d left s zero (key_in, value_in, fits) few rising up short-enough a = absurd (omega arith)
  entries-back (next_entry k v es) ks os p d left s (suc room) (key_in, value_in, fits) few rising up short-enough a =
      let l = length-append (encoding k) (encoding v ++ entries_encoding es) in
      let j = length-append (encoding v) (entries_encoding es) in
      let a₁ = at_left os p (encoding k) (encoding v ++ entries_encoding es) a in
      let b = at_right os p (encoding k) (encoding v ++ entries_encoding es) a in
      let u₁ = and_parts (ascending k) _ up in
      let u₂ = and_parts (above ks (encoding k)) _ u₁.1 in
      let u₃ = and_parts (ascending v) _ u₂.1 in
      entries-first (item_of d os) os (map_size es) room ks (walk p left s) (walk (p + length (encoding k)) (left - total k) s) (walk (p + length (encoding k) + length (encoding v)) (left - total k - total v) s) (encoding k)
      (item_back k os p d left s key_in (omega arith) u₁.0 a₁)
      (key_at_lem os p (encoding k) a₁)
      (judged-some ks (encoding k) (chain-new ks (encoding k) rising u₂.0) u₂.0)
      (ap (λ g. item_of d os (walk (p + length (encoding k)) (left - total k) g)) (and_true s)
      ∙ item_back v os (p + length (encoding k)) d (left - total k) s value_in (omega arith) u₃.0 (at_left os (p + length (encoding k)) (encoding v) (entries_encoding es) b))
      ∙ entries-back es (encoding k ∷ ks) os (p + length (encoding k) + length (encoding v)) d (left - total k - total v) s room fits (omega arith) (both_true (chain ks) (above ks (encoding k)) rising u₂.0) u₃.1 (omega arith) (at_right os (p + length (encoding k)) (encoding v) (entries_encoding es) b)
      ∙ moved _ _ _ _ s (omega arith) (omega arith)
