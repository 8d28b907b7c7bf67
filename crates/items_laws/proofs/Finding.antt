-- A lookup in a map that is encoded answers where the key's value is encoded.
use Rattle.std.proofs.Common.{ControlFlow, ◌≡◌, ℕ, zero, suc, ◌+◌, ◌≤◌, Bool, true, false, cond, eqb, List, [], ◌∷◌, ◌++◌, length, Some, Ok, Option, Result, sym, refl, ap, ◌∙◌, subst, arith}
use Rattle.std.proofs.lemmas.Bool.{and_parts, true≢false}
use Rattle.std.proofs.lemmas.Bool.Decides.{nat_tests}
use Rattle.items.specs.declared.types.Fault.{Fault}
use Rattle.items.specs.Keys.{above}
use Rattle.items.specs.Heads.{head_size}
use Rattle.items.specs.Reading.{message_items, map_entries}
use Rattle.items.specs.Lookup.{passed, is_key, entry_at, onward, seek, lookup_of}
use Rattle.items.specs.Trees.{head_of, Item, unsigned, negative, bytes, text, array, map, simple_false, simple_true, simple_null, Entries, no_entries, next_entry, map_size, encoding, entries_encoding, total, entries_total, ascending, entries_ascending, Within, EntriesWithin, At, is_unsigned, value_of}
use Rattle.items.proofs.Seeking.{find_in, entry_hit, entry_next}
use Rattle.items_laws.specs.Laws.{Found, FindsValue}
use Rattle.items_laws.proofs.Written.{at_left, at_right, head-back}
use Rattle.items_laws.proofs.Backs.{head, item_back}
use Rattle.items_laws.proofs.Unique.{major, argument, head-reads}

-- the head of a key tells whether it is the number that is wanted
key-is : (k : Item) (n : ℕ) → is_key (head (major k) (argument k)) n ≡ is_unsigned k n
key-is (unsigned m) n = refl
key-is (negative m) n = refl
key-is (bytes bs) n = refl
key-is (text bs) n = refl
key-is (array ts) n = refl
key-is (map es) n = refl
key-is simple_false n = refl
key-is simple_true n = refl
key-is simple_null n = refl

-- a key that is a number is no more than its head
key-head : (k : Item) (n : ℕ) → is_unsigned k n ≡ true → (length (encoding k) ≡ length (head_of (major k) (argument k))) × (major k ≡ 0) × (argument k ≡ n)
unfolding encoding
key-head (unsigned m) n is = (refl, refl, eqb_same m n is)
  where
    eqb_same : (a b : ℕ) → eqb a b ≡ true → a ≡ b
    eqb_same a b e = grind (arith, nat_tests)
key-head (negative m) n is = absurd (true≢false (sym is))
key-head (bytes bs) n is = absurd (true≢false (sym is))
key-head (text bs) n is = absurd (true≢false (sym is))
key-head (array ts) n is = absurd (true≢false (sym is))
key-head (map es) n is = absurd (true≢false (sym is))
key-head simple_false n is = absurd (true≢false (sym is))
key-head simple_true n is = absurd (true≢false (sym is))
key-head simple_null n is = absurd (true≢false (sym is))

pub pass_back : (t : Item) (os : List ℕ) (p : ℕ) → Within t 31 → total t ≤ message_items → ascending t ≡ true → At os p (encoding t) → passed os p ≡ Ok (p + length (encoding t))
unfolding passed
pass_back t os p fits few up a = let e = item_back t os p 31 message_items true fits few up a in rw e

seek-one : (os : List ℕ) (n room p : ℕ) (wanted : ℕ) (e : ControlFlow ℕ ℕ) → Ok e ≡ entry_at os wanted p → seek os wanted (suc n) (suc room) p ≡ onward (seek os wanted n room) e
unfolding seek
seek-one os n room p wanted e is = rw (sym is)

module _ (os : List ℕ) (wanted : ℕ) where
  -- one entry, and what the rest answers
  module _ (k v : Item) (es : Entries) (p room : ℕ) (key_in : Within k 31) (value_in : Within v 31) (few : total k + total v ≤ message_items) (key-up : ascending k ≡ true) (value-up : ascending v ≡ true) (here : At os p (encoding k)) (value-here : At os (p + length (encoding k)) (encoding v)) (rest : Found os (value_of es wanted) (seek os wanted (map_size es) room (p + length (encoding k) + length (encoding v)))) where
    abbrev Answers : Bool → Type 0
    Answers b = Found os (cond b (Some v) (value_of es wanted)) (seek os wanted (suc (map_size es)) (suc room) p)

    entry_found : (b : Bool) → is_unsigned k wanted ≡ b → Answers b
    entry_found true e =
        let h = head-reads os k 31 p key_in here in
        let n = key-head k wanted e in
        let q : p + length (encoding k) ≡ p + head_size os p = ap (λ x. p + x) (n.0 ∙ sym h.long) in
        let hit = entry_hit os wanted p (head (major k) (argument k)) (sym h.is) (p + length (encoding k)) q n.1 n.2 in
        (p + length (encoding k), seek-one os (map_size es) room p wanted _ hit, value-here)
    entry_found false e =
        let h = head-reads os k 31 p key_in here in
        let past-key = pass_back k os p key_in (omega arith) key-up here in
        let past_value = pass_back v os (p + length (encoding k)) value_in (omega arith) value-up value-here in
        let next = entry_next os wanted p (head (major k) (argument k)) (sym h.is) (key-is k wanted ∙ e) (p + length (encoding k)) past-key (p + length (encoding k) + length (encoding v)) past_value in
        subst (Found os (value_of es wanted)) (sym (seek-one os (map_size es) room p wanted _ next)) rest

  entries-found : (es : Entries) (ks : List (List ℕ)) (p room : ℕ) → EntriesWithin es 31 → entries_total es ≤ message_items → entries_ascending ks es ≡ true → map_size es ≤ room → At os p (entries_encoding es) → Found os (value_of es wanted) (seek os wanted (map_size es) room p)
  unfolding seek encoding total ascending Within
  entries-found no_entries ks p room fits few up short-enough a = refl
  entries-found (next_entry k v es) ks p zero fits few up short-enough a = absurd (omega arith)
  entries-found (next_entry k v es) ks p (suc room) (key_in, value_in, fits) few up short-enough a =
      let q : ℕ = p + length (encoding k) in
      let behind = at_right os p (encoding k) (encoding v ++ entries_encoding es) a in
      let u₁ = and_parts (ascending k) _ up in
      let u₂ = and_parts (above ks (encoding k)) _ u₁.1 in
      let u₃ = and_parts (ascending v) _ u₂.1 in
      let rest = entries-found es (encoding k ∷ ks) (q + length (encoding v)) room fits (omega arith) u₃.1 (omega arith) (at_right os q (encoding v) (entries_encoding es) behind) in
      entry_found k v es p room key_in value_in (omega arith) u₁.0 u₃.0 (at_left os p (encoding k) (encoding v ++ entries_encoding es) a) (at_left os q (encoding v) (entries_encoding es) behind) rest (is_unsigned k wanted) refl

  pub finds_value : (p : ℕ) (r : Result (Option ℕ) Fault) → r ≡ lookup_of os p wanted → FindsValue os p wanted r
  unfolding encoding total ascending Within
  finds_value p r is es good a =
      let n : ℕ = map_size es in
      let h = head-back os p 5 n (omega (arith, good.within.0)) (at_left os p (head_of 5 n) (entries_encoding es) a) in
      let into = find_in os p wanted (head 5 n) (sym h.is) refl (p + length (head_of 5 n)) (ap (λ x. p + x) (sym h.long)) in
      let found = entries-found es [] (p + length (head_of 5 n)) map_entries good.within.2 (omega (arith, good.few)) good.ascends good.within.0 (at_right os p (head_of 5 n) (entries_encoding es) a) in
      subst (Found os (value_of es wanted)) (into ∙ sym is) found
