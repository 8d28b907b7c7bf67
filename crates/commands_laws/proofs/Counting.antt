-- Since the keys of a map are distinct, it has as many entries as were found exactly when it has no others.
use Rattle.std.proofs.Common.{◌≡◌, ℕ, zero, suc, ◌+◌, Bool, true, false, cond, ◌&&◌, eqb, List, [], ◌∷◌, Some, None, Option, sym, refl, ap, ◌∙◌, arith}
use Rattle.std.proofs.lemmas.Slice.Eq.{bytes_eq-Decides}
use Rattle.std.proofs.lemmas.Bool.{and_parts, and_from, or_left, or_right, true≢false}
use Rattle.std.proofs.lemmas.Bool.Decides.{nat_tests}
use Rattle.std.specs.Str.{bytes_eq}
use Rattle.items.specs.Keys.{above, has, chain}
use Rattle.items.specs.Trees.{Item, unsigned, negative, bytes, text, array, map, simple_false, simple_true, simple_null, Entries, no_entries, next_entry, map_size, encoding, ascending, entries_ascending, Canonical, is_unsigned, value_of}
use Rattle.items.proofs.Chains.{chain-new}
use Rattle.commands.specs.Entries.{unsigned_of, key_below, keys_below}

-- whether a value is there, as a number
abbrev pub one : Option Item → ℕ
one None = 0
one (Some v) = 1

-- how many of the first n keys have a value
abbrev pub found_below : Entries → ℕ → ℕ
found_below es zero = 0
found_below es (suc n) = found_below es n + one (value_of es n)

-- how many entries have another key than the first n
abbrev others : ℕ → Entries → ℕ
others n no_entries = 0
others n (next_entry k v es) = cond (key_below (unsigned_of k) n) 0 1 + others n es

-- how many entries have the key n
abbrev hits : ℕ → Entries → ℕ
hits n no_entries = 0
hits n (next_entry k v es) = cond (is_unsigned k n) 1 0 + hits n es

none_other : (n : ℕ) (es : Entries) → keys_below n es ≡ eqb (others n es) 0
none_other n no_entries = refl
none_other n (next_entry k v es) = by (key_below (unsigned_of k) n) (none_other n es)
  where
    by : (b : Bool) → keys_below n es ≡ eqb (others n es) 0 → (b && keys_below n es) ≡ eqb (cond b 0 1 + others n es) 0
    by true e = grind (arith, nat_tests)
    by false e = grind (arith, nat_tests)

none_below : (k : Item) → ◌≡◌ {A = ℕ} (cond (key_below (unsigned_of k) 0) 0 1) 1
none_below (unsigned m) = grind (arith, nat_tests)
none_below (negative m) = refl
none_below (bytes bs) = refl
none_below (text bs) = refl
none_below (array ts) = refl
none_below (map es) = refl
none_below simple_false = refl
none_below simple_true = refl
none_below simple_null = refl

all_others : (es : Entries) → others 0 es ≡ map_size es
all_others no_entries = refl
all_others (next_entry k v es) = omega (arith, none_below k, all_others es)

one_fewer : (n : ℕ) (k : Item) → cond (key_below (unsigned_of k) n) 0 1 ≡ cond (key_below (unsigned_of k) (suc n)) 0 1 + cond (is_unsigned k n) 1 0
one_fewer n (unsigned m) = grind (arith, nat_tests)
one_fewer n (negative m) = refl
one_fewer n (bytes bs) = refl
one_fewer n (text bs) = refl
one_fewer n (array ts) = refl
one_fewer n (map es) = refl
one_fewer n simple_false = refl
one_fewer n simple_true = refl
one_fewer n simple_null = refl

fewer_others : (n : ℕ) (es : Entries) → others n es ≡ others (suc n) es + hits n es
fewer_others n no_entries = refl
fewer_others n (next_entry k v es) = omega (arith, one_fewer n k, fewer_others n es)

key-is : (k : Item) (n : ℕ) → is_unsigned k n ≡ true → k ≡ unsigned n
key-is (unsigned m) n e = let same : m ≡ n = grind (arith, nat_tests) in ap unsigned same
key-is (negative m) n e = cc
key-is (bytes bs) n e = cc
key-is (text bs) n e = cc
key-is (array ts) n e = cc
key-is (map es) n e = cc
key-is simple_false n e = cc
key-is simple_true n e = cc
key-is simple_null n e = cc

module _ (n : ℕ) where
  -- a key that was there comes no more
  no_more : (es : Entries) (ks : List (List ℕ)) → chain ks ≡ true → has ks (encoding (unsigned n)) ≡ true → entries_ascending ks es ≡ true → hits n es ≡ 0
  unfolding ascending
  no_more no_entries ks c h up = refl
  no_more (next_entry k v es) ks c h up =
      let u₁ = and_parts (ascending k) _ up in
      let u₂ = and_parts (above ks (encoding k)) _ u₁.1 in
      let u₃ = and_parts (ascending v) _ u₂.1 in
      let rest = no_more es (encoding k ∷ ks) (and_from (chain ks) _ c u₂.0) (or_right (bytes_eq (encoding k) (encoding (unsigned n))) _ h) u₃.1 in
      by (is_unsigned k n) refl (chain-new ks (encoding k) c u₂.0) rest
    where
      by : (b : Bool) → is_unsigned k n ≡ b → has ks (encoding k) ≡ false → hits n es ≡ 0 → cond b 1 0 + hits n es ≡ 0
      by true e new rest = absurd (true≢false (sym h ∙ ap (λ t. has ks (encoding t)) (sym (key-is k n e)) ∙ new))
      by false e new rest = omega arith

  one_hit : (es : Entries) (ks : List (List ℕ)) → chain ks ≡ true → entries_ascending ks es ≡ true → hits n es ≡ one (value_of es n)
  unfolding ascending
  one_hit no_entries ks c up = refl
  one_hit (next_entry k v es) ks c up =
      let u₁ = and_parts (ascending k) _ up in
      let u₂ = and_parts (above ks (encoding k)) _ u₁.1 in
      let u₃ = and_parts (ascending v) _ u₂.1 in
      let more-chain = and_from (chain ks) _ c u₂.0 in
      by (is_unsigned k n) refl more-chain u₃.1 (one_hit es (encoding k ∷ ks) more-chain u₃.1)
    where
      by : (b : Bool) → is_unsigned k n ≡ b → chain (encoding k ∷ ks) ≡ true → entries_ascending (encoding k ∷ ks) es ≡ true → hits n es ≡ one (value_of es n) → cond b 1 0 + hits n es ≡ one (cond b (Some v) (value_of es n))
      by true e more-chain up rest =
          let same : encoding k ≡ encoding (unsigned n) = ap encoding (key-is k n e) in
          let here : has (encoding k ∷ ks) (encoding (unsigned n)) ≡ true = or_left _ (has ks (encoding (unsigned n))) ((bytes_eq-Decides (encoding k) (encoding (unsigned n))).1 same) in
          omega (arith, no_more es (encoding k ∷ ks) more-chain here up)
      by false e more-chain up rest = omega arith

all_found : (es : Entries) → entries_ascending [] es ≡ true → (n : ℕ) → found_below es n + others n es ≡ map_size es
all_found es up zero = omega (arith, all_others es)
all_found es up (suc n) = omega (arith, all_found es up n, fewer_others n es, one_hit n es [] refl up)

-- every key is one of the first n exactly when the map has as many entries as were found
pub no_others : (es : Entries) → Canonical (map es) → (n : ℕ) → keys_below n es ≡ eqb (map_size es) (found_below es n)
unfolding ascending
no_others es good n = let e = all_found es good.ascends n in none_other n es ∙ zero_is (found_below es n) (others n es) (map_size es) e
  where
    zero_is : (a b t : ℕ) → a + b ≡ t → eqb b 0 ≡ eqb t a
    zero_is a b t e = grind (arith, nat_tests)
