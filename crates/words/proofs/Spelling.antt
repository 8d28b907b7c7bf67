-- Digits and the octets that they spell.
use Rattle.std.proofs.Common.{◌≡◌, ℕ, zero, suc, ◌+◌, ◌*◌, ◌/◌, ◌%◌, ◌^◌, ◌-◌, ◌<◌, ◌≤◌, false, true, List, [], ◌∷◌, ◌++◌, length, get_or, take, drop, Option, Some, None, unwrap_or, sym, refl, ap, ◌∙◌, subst, inl, inr, arith, rules, below_more}
use Rattle.std.proofs.lemmas.Fmt.{hex_byte}
use Rattle.std.specs.Fmt.{padded_integral, format_spec, digits}
use Rattle.std.proofs.lemmas.List.{ext_get_or, get_or_append_left, get_or_push, flat_map_more, take_more, take_all, get_or-take, get_or-drop, drop-drop}
use Rattle.std.specs.Simd.{first_chunks}
use Rattle.words.specs.Hex.{octet_of, hex_of, hex_text, SpeltTo, Spells, Octets, HexBack, OctetBack}
use Rattle.std.specs.List.{flat_map}

some_same : {x y : ℕ} → Some x ≡ Some y → x ≡ y
some_same e = ap (λ o. unwrap_or o 0) e

-- a word spells at most one list of octets
pub spells_one : (word os ps : List ℕ) → Spells word os → Spells word ps → os ≡ ps
spells_one word os ps a b =
    let same : length os ≡ length ps = omega (arith, a.long, b.long) in
    ext_get_or 0 os ps same (λ k h. some_same (sym (a.digits k h) ∙ b.digits k (omega (arith, same, h))))

-- one more octet is spelt
pub spelt_more : (word os : List ℕ) (k o : ℕ) → length os ≡ k → SpeltTo word os k → octet_of (get_or word (2 * k) 0) (get_or word (2 * k + 1) 0) ≡ Some o → SpeltTo word (os ++ o ∷ []) (k + 1)
spelt_more word os k o long spelt e =
    below_more _ _
    (λ j h. spelt j h ∙ ap Some (sym (get_or_append_left os (o ∷ []) 0 j (omega (arith, long, h)))))
    (e ∙ ap Some (sym (get_or_push os o 0 k long)))

-- a pair of digits, where it stands in the word
pair_at : (n : ℕ) (word : List ℕ) (i : ℕ) → i < n → get_or (first_chunks 2 n word) i [] ≡ take 2 (drop (2 * i) word)
pair_at zero word i l = absurd (omega arith)
pair_at (suc n) word zero l = refl
pair_at (suc n) word (suc i) l =
    let e : 2 * suc i ≡ 2 * i + 2 = omega arith in
    pair_at n (drop 2 word) i (omega arith) ∙ ap (take 2) (drop-drop (2 * i) 2 word ∙ ap (λ k. drop k word) (omega arith))

digit_at : (pairs : List (List ℕ)) (word : List ℕ) (n i j : ℕ) → pairs ≡ first_chunks 2 n word → i < n → j < 2 → get_or (get_or pairs i []) j 0 ≡ get_or word (2 * i + j) 0
digit_at pairs word n i j is l small =
    ap (λ ps. get_or (get_or ps i []) j 0) is
    ∙ ap (λ p. get_or p j 0) (pair_at n word i l)
    ∙ get_or-take 2 (drop (2 * i) word) j 0 small
    ∙ get_or-drop (2 * i) word j 0

-- the octet that a pair spells
pub pair_octet : (pairs : List (List ℕ)) (word : List ℕ) (i : ℕ) (r : Option ℕ) → pairs ≡ first_chunks 2 (length word / 2) word → length pairs ≡ length word / 2 → i < length pairs
    → r ≡ octet_of (get_or (get_or pairs i []) 0 0) (get_or (get_or pairs i []) 1 0) → octet_of (get_or word (2 * i) 0) (get_or word (2 * i + 1) 0) ≡ r
pair_octet pairs word i r is long l e =
    let at : i < length word / 2 = omega (arith, long) in
    let z : 2 * i + 0 ≡ 2 * i = omega arith in
    let high : get_or (get_or pairs i []) 0 0 ≡ get_or word (2 * i) 0 = digit_at pairs word _ i 0 is at (omega arith) ∙ ap (λ k. get_or word k 0) z in
    let low = digit_at pairs word _ i 1 is at (omega arith) in
    sym (e ∙ (λ k. octet_of (high k) (low k)))

-- a word with a pair that spells no octet spells none
pub unspelt : (word os : List ℕ) (i : ℕ) → i < length word / 2 → octet_of (get_or word (2 * i) 0) (get_or word (2 * i + 1) 0) ≡ None → Spells word os → ⊥
unspelt word os i l none s = let e : Some (get_or os i 0) ≡ None = sym (s.digits i (omega (arith, s.long))) ∙ none in cc

-- all pairs are spelt
pub spells_all : (word os : List ℕ) (n : ℕ) → length word % 2 ≡ 0 → n ≡ length word / 2 → length os ≡ n → SpeltTo word os n → Spells word os
spells_all word os n even half long spelt = record { long = omega (arith, even, half, long); digits = subst (λ m. SpeltTo word os m) (sym long) spelt }

octet-back : OctetBack
octet-back o h = search rules

hex_long : (os : List ℕ) → length (hex_text os) ≡ 2 * length os
hex_long [] = refl
hex_long (o ∷ os) = let e = hex_long os in omega (arith, e)

twice_suc : (k : ℕ) → 2 * suc k ≡ suc (suc (2 * k))
twice_suc k = omega arith

twice_suc_more : (k : ℕ) → 2 * suc k + 1 ≡ suc (suc (2 * k + 1))
twice_suc_more k = omega arith

pair-behind : (a b : ℕ) (xs : List ℕ) (k v : ℕ) → octet_of (get_or xs (2 * k) 0) (get_or xs (2 * k + 1) 0) ≡ Some v
    → octet_of (get_or (a ∷ b ∷ xs) (2 * suc k) 0) (get_or (a ∷ b ∷ xs) (2 * suc k + 1) 0) ≡ Some v
pair-behind a b xs k v h =
    subst (λ m. octet_of (get_or (a ∷ b ∷ xs) m 0) (get_or (a ∷ b ∷ xs) (2 * suc k + 1) 0) ≡ Some v) (sym (twice_suc k))
    (subst (λ n. octet_of (get_or xs (2 * k) 0) (get_or (a ∷ b ∷ xs) n 0) ≡ Some v) (sym (twice_suc_more k)) h)

hex_digits : (os : List ℕ) → Octets os → SpeltTo (hex_text os) os (length os)
hex_digits [] h k l = absurd (omega (arith, l))
hex_digits (o ∷ os) h zero l = octet-back o (h 0)
hex_digits (o ∷ os) h (suc k) l =
    pair-behind _ _ (hex_text os) k _ (hex_digits os (λ j. h (suc j)) k (omega (arith, l)))

pub hex_back : HexBack
hex_back [] h = inl (refl, refl)
hex_back (o ∷ os) h = inr (record { long = hex_long (o ∷ os); digits = hex_digits (o ∷ os) h })

-- the digits that are written of one octet
pub hex_written : (s a : List ℕ) (o : ℕ) → o < 256 → a ≡ s ++ padded_integral (format_spec 32 0 4 2 (2 ^ 64 - 1)) false [] (digits 16 true o) → a ≡ s ++ hex_of o
hex_written s a o small e = e ∙ ap (λ x. s ++ x) (hex_byte true o small)

-- one octet's digits more
pub digits_more : (s a b os : List ℕ) (i : ℕ) → i < length os → a ≡ s ++ hex_text (take i os) → b ≡ a ++ hex_of (get_or os i 0) → b ≡ s ++ hex_text (take (i + 1) os)
digits_more s a b os i inside ea eb =
    eb ∙ ap (λ x. x ++ hex_of (get_or os i 0)) ea
    ∙ flat_map_more hex_of s (take i os) (get_or os i 0)
    ∙ ap (λ x. s ++ hex_text x) (sym (take_more os i 0 inside))

-- the digits of all octets
pub digits-whole : (s os : List ℕ) (i : ℕ) → length os ≤ i → s ++ hex_text (take i os) ≡ s ++ hex_text os
digits-whole s os i h = ap (λ x. s ++ hex_text x) (take_all i os h)

-- the pairs of digits of all octets, one behind the other
pub pairs_hex : (os : List ℕ) (pairs : List (List ℕ)) → length pairs ≡ length os → ((i : ℕ) → i < length os → get_or pairs i [] ≡ hex_of (get_or os i 0)) → flat_map (λ pair. pair) pairs ≡ hex_text os
pairs_hex [] [] long each = refl
pairs_hex [] (pair ∷ pairs) long each = absurd (omega (arith, long))
pairs_hex (o ∷ os) [] long each = absurd (omega (arith, long))
pairs_hex (o ∷ os) (pair ∷ pairs) long each =
    let rest = pairs_hex os pairs (omega (arith, long)) (λ i l. each (suc i) (omega (arith, l))) in
    let here : pair ≡ hex_of o = each 0 (omega arith) in
    (λ i. here i ++ rest i)
