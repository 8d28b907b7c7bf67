-- A map whose keys are among the first few is the list of their values, in the order of the keys.
use Rattle.std.proofs.Common.{◌≡◌, ℕ, zero, suc, ◌+◌, ◌*◌, ◌<◌, ◌≤◌, true, false, cond, ltb, List, [], ◌∷◌, Some, None, Option, sym, refl, ap, ◌∙◌, subst, ⊎_elim, arith}
use Rattle.std.proofs.lemmas.Bool.{and_parts, cases_order, eq-eqb, ne_eqb, ltb-true, cond-true}
use Rattle.std.proofs.lemmas.Bool.Decides.{nat_tests}
use Rattle.items.specs.Keys.{before, above}
use Rattle.items.specs.Trees.{Item, unsigned, negative, bytes, text, array, map, simple_false, simple_true, simple_null, Entries, no_entries, next_entry, head_of, encoding, ascending, entries_ascending, Canonical, is_unsigned, value_of}
use Rattle.commands.specs.Entries.{unsigned_of, key_below, keys_below}

-- the keys rise from low to below top
abbrev Rising : ℕ → ℕ → Entries → Type 0
Rising low top no_entries = Unit {0}
Rising low top (next_entry key v es) = (m : ℕ) × (key ≡ unsigned m) × (low ≤ m) × (m < top) × Rising (suc m) top es

key-number : (key : Item) (n : ℕ) → key_below (unsigned_of key) n ≡ true → (m : ℕ) × (key ≡ unsigned m) × (m < n)
key-number (unsigned m) n e = (m, refl, ltb-true m n e)
key-number (negative m) n e = cc
key-number (bytes bs) n e = cc
key-number (text bs) n e = cc
key-number (array ts) n e = cc
key-number (map es) n e = cc
key-number simple_false n e = cc
key-number simple_true n e = cc
key-number simple_null n e = cc

-- a small number is one octet
small : (n : ℕ) → n < 24 → encoding (unsigned n) ≡ n ∷ []
unfolding encoding head_of
small n few =
    let e : 32 * 0 + n ≡ n = omega arith in
    cond-true (ltb n 24) _ _ (grind (arith, nat_tests)) ∙ ap (λ x. x ∷ []) e

small-before : (a b : ℕ) → a < 24 → b < 24 → before (encoding (unsigned a)) (encoding (unsigned b)) ≡ true → a < b
small-before a b la lb e =
    let f : before (a ∷ []) (b ∷ []) ≡ true = (λ i. before (sym (small a la) i) (sym (small b lb) i)) ∙ e in
    by f
  where
    by : before (a ∷ []) (b ∷ []) ≡ true → a < b
    by f = grind (arith, nat_tests)

module _ (n : ℕ) (few : n ≤ 24) where
  rising-after : (es : Entries) (ks : List (List ℕ)) (prev : ℕ) → prev < 24 → entries_ascending (encoding (unsigned prev) ∷ ks) es ≡ true → keys_below n es ≡ true → Rising (suc prev) n es
  unfolding ascending
  rising-after no_entries ks prev l up keys = tt
  rising-after (next_entry key v es) ks prev l up keys =
      let k = and_parts (key_below (unsigned_of key) n) _ keys in
      let m = key-number key n k.0 in
      let u₁ = and_parts (ascending key) _ up in
      let u₂ = and_parts (above (encoding (unsigned prev) ∷ ks) (encoding key)) _ u₁.1 in
      let u₃ = and_parts (ascending v) _ u₂.1 in
      let lm : m.0 < 24 = omega (arith, m.2) in
      let above-it : before (encoding (unsigned prev)) (encoding (unsigned m.0)) ≡ true = ap (λ x. before (encoding (unsigned prev)) (encoding x)) (sym m.1) ∙ u₂.0 in
      let up' : entries_ascending (encoding (unsigned m.0) ∷ (encoding (unsigned prev) ∷ ks)) es ≡ true = ap (λ x. entries_ascending (encoding x ∷ (encoding (unsigned prev) ∷ ks)) es) (sym m.1) ∙ u₃.1 in
      (m.0, m.1, small-before prev m.0 l lm above-it, m.2, rising-after es (encoding (unsigned prev) ∷ ks) m.0 lm up' k.1)

  rising : (es : Entries) → entries_ascending [] es ≡ true → keys_below n es ≡ true → Rising 0 n es
  unfolding ascending
  rising no_entries up keys = tt
  rising (next_entry key v es) up keys =
      let k = and_parts (key_below (unsigned_of key) n) _ keys in
      let m = key-number key n k.0 in
      let u₁ = and_parts (ascending key) _ up in
      let u₃ = and_parts (ascending v) _ u₁.1 in
      let lm : m.0 < 24 = omega (arith, m.2) in
      let up' : entries_ascending (encoding (unsigned m.0) ∷ []) es ≡ true = ap (λ x. entries_ascending (encoding x ∷ []) es) (sym m.1) ∙ u₃.1 in
      (m.0, m.1, omega arith, m.2, rising-after es [] m.0 lm up' k.1)

other_key : (key : Item) (m j : ℕ) → key ≡ unsigned m → (m ≡ j → ⊥) → is_unsigned key j ≡ false
other_key key m j e ne = ap (λ x. is_unsigned x j) e ∙ ne_eqb m j ne

-- a key below the lowest is not there
missing : (es : Entries) (low top j : ℕ) → Rising low top es → j < low → value_of es j ≡ None
missing no_entries low top j r l = refl
missing (next_entry key v es) low top j (m, is, le, lt, rest) l =
    ap (λ b. cond b (Some v) (value_of es j)) (other_key key m j is (λ e. omega arith)) ∙ missing es (suc m) top j rest (omega arith)

-- the value of a key before others, if it has one
abbrev pub entry_if : ℕ → Option Item → Entries → Entries
entry_if key None es = es
entry_if key (Some v) es = next_entry (unsigned key) v es

-- the values of count keys from key on
abbrev pub entries_from : (ℕ → Option Item) → ℕ → ℕ → Entries
entries_from f key zero = no_entries
entries_from f key (suc count) = entry_if key (f key) (entries_from f (suc key) count)

module _ (f : ℕ → Option Item) (top : ℕ) where
  relisted : (count key : ℕ) (es : Entries) → top ≡ key + count → Rising key top es → ((j : ℕ) → key ≤ j → f j ≡ value_of es j) → es ≡ entries_from f key count
  relisted zero key no_entries t r same = refl
  relisted zero key (next_entry k v es) t (m, is, le, lt, rest) same = absurd (omega arith)
  relisted (suc count) key no_entries t r same =
      let rest = relisted count (suc key) no_entries (omega arith) tt (λ j l. same j (omega arith)) in
      rest ∙ ap (λ o. entry_if key o (entries_from f (suc key) count)) (sym (same key (omega arith)))
  relisted (suc count) key (next_entry k v es) t (m, is, le, lt, rest) same = ⊎_elim
      (λ (e : key ≡ m).
      let here : f key ≡ Some v = same key (omega arith) ∙ ap (λ b. cond b (Some v) (value_of es key)) (ap (λ x. is_unsigned x key) is ∙ eq-eqb m key (sym e)) in
      let later = relisted count (suc key) es (omega arith) (subst (λ x. Rising (suc x) top es) (sym e) rest) (λ j l. same j (omega arith) ∙ ap (λ b. cond b (Some v) (value_of es j)) (other_key k m j is (λ q. omega arith))) in
      (λ i. next_entry ((is ∙ ap unsigned (sym e)) i) v (later i)) ∙ ap (λ o. entry_if key o (entries_from f (suc key) count)) (sym here))
      (λ o.
      let lt' : key < m = ⊎_elim (λ (x : key < m). x) (λ (x : m < key). absurd (omega arith)) o in
      let none : f key ≡ None = same key (omega arith) ∙ missing (next_entry k v es) (suc key) top key (m, is, lt', lt, rest) (omega arith) in
      let later = relisted count (suc key) (next_entry k v es) (omega arith) (m, is, lt', lt, rest) (λ j l. same j (omega arith)) in
      later ∙ ap (λ o. entry_if key o (entries_from f (suc key) count)) (sym none))
      (cases_order key m)

-- a map that has none but the first n keys is the list of their values
pub relist : (es : Entries) → Canonical (map es) → (n : ℕ) → n ≤ 24 → keys_below n es ≡ true → es ≡ entries_from (value_of es) 0 n
unfolding ascending
relist es good n few keys = relisted (value_of es) n n 0 es (omega arith) (rising n few es good.ascends keys) (λ j l. refl)
