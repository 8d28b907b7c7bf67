-- The strings of an encoding, met head by head, are those of its tree.
use Rattle.std.proofs.Common.{◌≡◌, ℕ, suc, ◌+◌, ◌/◌, ◌%◌, ◌^◌, ◌<◌, ◌≤◌, Bool, true, false, cond, ◌&&◌, eqb, leb, List, [], ◌∷◌, ◌++◌, length, get_or, Some, None, sym, refl, ap, ◌∙◌, add_assoc, arith, length-append}
use Rattle.std.proofs.Math.Bool.{and_assoc}
use Rattle.std.proofs.lemmas.Bool.Decides.{nat_tests}
use Rattle.items.specs.declared.types.Span.{Span}
use Rattle.items.specs.Heads.{head_size}
use Rattle.items.specs.Fields.{string_at, text_at}
use Rattle.items.specs.Trees.{Item, unsigned, negative, bytes, text, array, map, simple_false, simple_true, simple_null, Items, no_items, next_item, Entries, no_entries, next_entry, head_of, array_size, map_size, encoding, items_encoding, entries_encoding, total, items_total, entries_total, Within, ItemsWithin, EntriesWithin, At}
use Rattle.items_laws.specs.Exact.{TextFits}
use Rattle.items_laws.proofs.Written.{at_left, at_right, at_first, head-back}
use Rattle.items_laws.proofs.Runnings.{argument-back, bytes-exact, text-exact}
use Rattle.message.specs.Fields.{strings_short, items_short, entries_short}
use Rattle.message.specs.Sizes.{bytes_most, text_most, next_head, onward, strings_fit}
use Rattle.message.proofs.Bounds.{argument-on}
use Rattle.message.proofs.Scans.{fit_one, fit_some}

-- a head that is no string's is passed
next-plain : (xs : List ℕ) (p len : ℕ) → (get_or xs p 0 / 32 ≡ 2 → ⊥) → (get_or xs p 0 / 32 ≡ 3 → ⊥) → head_size xs p ≡ len → p + len ≤ length xs → next_head xs p ≡ Some (p + len)
unfolding next_head
next-plain xs p len no_bytes no_text long fits =
    let a : eqb (get_or xs p 0 / 32) 2 ≡ false = grind (arith, nat_tests) in
    let b : eqb (get_or xs p 0 / 32) 3 ≡ false = grind (arith, nat_tests) in
    let c : leb (p + len) (length xs) ≡ true = grind (arith, nat_tests) in
    rw (a, b, long, c)

next-bytes : (xs : List ℕ) (p : ℕ) → get_or xs p 0 / 32 ≡ 2 → (s : Span) (q : ℕ) → string_at 2 xs p ≡ Some (s, q) → next_head xs p ≡ cond (leb s.len bytes_most) (Some q) None
unfolding next_head
next-bytes xs p major s q is =
    let a : eqb (get_or xs p 0 / 32) 2 ≡ true = grind (arith, nat_tests) in
    rw (a, is)

next-text : (xs : List ℕ) (p : ℕ) → get_or xs p 0 / 32 ≡ 3 → (s : Span) (q : ℕ) → text_at xs p ≡ Some (s, q) → next_head xs p ≡ cond (leb s.len text_most) (Some q) None
unfolding next_head
next-text xs p major s q is =
    let a : eqb (get_or xs p 0 / 32) 2 ≡ false = grind (arith, nat_tests) in
    let b : eqb (get_or xs p 0 / 32) 3 ≡ true = grind (arith, nat_tests) in
    rw (a, b, is)

chosen_way : (b : Bool) (q : ℕ) (f : ℕ → Bool) → onward (cond b (Some q) None) f ≡ (b && f q)
chosen_way true q f = refl
chosen_way false q f = refl

-- the head of major type m with argument n is passed
pub fit_head : (xs : List ℕ) (p m n k : ℕ) → n < 2 ^ 64 → (m ≡ 2 → ⊥) → (m ≡ 3 → ⊥) → At xs p (head_of m n) → strings_fit (suc k) xs p ≡ strings_fit k xs (p + length (head_of m n))
fit_head xs p m n k fits no_bytes no_text a =
    let r = head-back xs p m n fits a in
    let o = argument-on m xs p n _ (argument-back xs m p n _ fits (record { at = a; on = refl })) in
    let next = next-plain xs p (length (head_of m n)) (λ e. no_bytes (sym o.major ∙ e)) (λ e. no_text (sym o.major ∙ e)) r.long a.within in
    fit_some xs p (suc k) k (p + length (head_of m n)) refl o.within (sym next)

fit_simple : (xs : List ℕ) (p x k : ℕ) → 244 ≤ x → x < 247 → At xs p (x ∷ []) → strings_fit (suc k) xs p ≡ strings_fit k xs (p + 1)
unfolding head_size
fit_simple xs p x k low high a =
    let first = at_first xs p x [] a in
    let w = a.within in
    let major : get_or xs p 0 / 32 ≡ 7 = omega arith in
    let info : get_or xs p 0 % 32 < 24 = omega arith in
    let long : head_size xs p ≡ 1 = grind (arith, nat_tests) in
    let next = next-plain xs p 1 (λ e. omega arith) (λ e. omega arith) long (omega arith) in
    fit_some xs p (suc k) k (p + 1) refl (omega arith) (sym next)

fit_bytes : (xs : List ℕ) (p : ℕ) (bs : List ℕ) (k : ℕ) → length bs < 2 ^ 64 → At xs p (encoding (bytes bs)) → strings_fit (suc k) xs p ≡ (leb (length bs) bytes_most && strings_fit k xs (p + length (encoding (bytes bs))))
unfolding encoding
fit_bytes xs p bs k fits a =
    let e = bytes-exact.back xs p bs _ fits (record { at = a; on = refl }) in
    let s : Span = e.0 in
    let o = argument-on 2 xs p (length bs) _ (argument-back xs 2 p (length bs) _ fits (record { at = at_left xs p (head_of 2 (length bs)) bs a; on = refl })) in
    fit_one xs p k o.within ∙ ap (λ y. onward y (strings_fit k xs)) (next-bytes xs p o.major s _ e.1)
    ∙ chosen_way (leb s.len bytes_most) _ (strings_fit k xs) ∙ ap (λ n. leb n bytes_most && strings_fit k xs (p + length (head_of 2 (length bs) ++ bs))) e.2.long

fit_text : (xs : List ℕ) (p : ℕ) (bs : List ℕ) (k : ℕ) → TextFits bs → At xs p (encoding (text bs)) → strings_fit (suc k) xs p ≡ (leb (length bs) text_most && strings_fit k xs (p + length (encoding (text bs))))
unfolding encoding
fit_text xs p bs k good a =
    let e = text-exact.back xs p bs _ good (record { at = a; on = refl }) in
    let s : Span = e.0 in
    let o = argument-on 3 xs p (length bs) _ (argument-back xs 3 p (length bs) _ good.fits (record { at = at_left xs p (head_of 3 (length bs)) bs a; on = refl })) in
    fit_one xs p k o.within ∙ ap (λ y. onward y (strings_fit k xs)) (next-text xs p o.major s _ e.1)
    ∙ chosen_way (leb s.len text_most) _ (strings_fit k xs) ∙ ap (λ n. leb n text_most && strings_fit k xs (p + length (head_of 3 (length bs) ++ bs))) e.2.long

on_sum : (xs : List ℕ) (n p : ℕ) (a b : List ℕ) → strings_fit n xs (p + length a + length b) ≡ strings_fit n xs (p + length (a ++ b))
on_sum xs n p a b = ap (strings_fit n xs) (omega (arith, length-append a b))

one-first : (a n : ℕ) → 1 + a + n ≡ suc (a + n)
one-first a n = omega arith

one : (n : ℕ) → 1 + n ≡ suc n
one n = omega arith

none : (n : ℕ) → 0 + n ≡ n
none n = omega arith

stay : (p : ℕ) → p ≡ p + 0
stay p = omega arith

module _ (xs : List ℕ) where
  mutual
    unfolding encoding total strings_short Within

    pub fit_item : (t : Item) (p n d : ℕ) → Within t d → At xs p (encoding t) → strings_fit (total t + n) xs p ≡ (strings_short t && strings_fit n xs (p + length (encoding t)))
    fit_item (unsigned m) p n d w a = ap (λ k. strings_fit k xs p) (one n) ∙ fit_head xs p 0 m n w (λ e. omega arith) (λ e. omega arith) a
    fit_item (negative m) p n d w a = ap (λ k. strings_fit k xs p) (one n) ∙ fit_head xs p 1 m n w (λ e. omega arith) (λ e. omega arith) a
    fit_item (bytes bs) p n d w a = ap (λ k. strings_fit k xs p) (one n) ∙ fit_bytes xs p bs n w a
    fit_item (text bs) p n d w a = ap (λ k. strings_fit k xs p) (one n) ∙ fit_text xs p bs n (record { fits = w.0; utf8 = w.1 }) a
    fit_item (array ts) p n d (few, deep, inner) a =
        ap (λ k. strings_fit k xs p) (one-first (items_total ts) n)
        ∙ fit_head xs p 4 (array_size ts) (items_total ts + n) (omega arith) (λ e. omega arith) (λ e. omega arith) (at_left xs p (head_of 4 (array_size ts)) (items_encoding ts) a)
        ∙ fit_items ts (p + length (head_of 4 (array_size ts))) n _ inner (at_right xs p (head_of 4 (array_size ts)) (items_encoding ts) a)
        ∙ ap (λ b. items_short ts && b) (on_sum xs n p (head_of 4 (array_size ts)) (items_encoding ts))
    fit_item (map es) p n d (few, deep, inner) a =
        ap (λ k. strings_fit k xs p) (one-first (entries_total es) n)
        ∙ fit_head xs p 5 (map_size es) (entries_total es + n) (omega arith) (λ e. omega arith) (λ e. omega arith) (at_left xs p (head_of 5 (map_size es)) (entries_encoding es) a)
        ∙ fit_entries es (p + length (head_of 5 (map_size es))) n _ inner (at_right xs p (head_of 5 (map_size es)) (entries_encoding es) a)
        ∙ ap (λ b. entries_short es && b) (on_sum xs n p (head_of 5 (map_size es)) (entries_encoding es))
    fit_item simple_false p n d w a = ap (λ k. strings_fit k xs p) (one n) ∙ fit_simple xs p 244 n (omega arith) (omega arith) a
    fit_item simple_true p n d w a = ap (λ k. strings_fit k xs p) (one n) ∙ fit_simple xs p 245 n (omega arith) (omega arith) a
    fit_item simple_null p n d w a = ap (λ k. strings_fit k xs p) (one n) ∙ fit_simple xs p 246 n (omega arith) (omega arith) a

    pub fit_items : (ts : Items) (p n d : ℕ) → ItemsWithin ts d → At xs p (items_encoding ts) → strings_fit (items_total ts + n) xs p ≡ (items_short ts && strings_fit n xs (p + length (items_encoding ts)))
    fit_items no_items p n d w a = (λ i. strings_fit (none n i) xs (stay p i))
    fit_items (next_item t ts) p n d (here, rest) a =
        ap (λ k. strings_fit k xs p) (add_assoc (total t) (items_total ts) n)
        ∙ fit_item t p (items_total ts + n) d here (at_left xs p (encoding t) (items_encoding ts) a)
        ∙ ap (λ b. strings_short t && b) (fit_items ts (p + length (encoding t)) n d rest (at_right xs p (encoding t) (items_encoding ts) a) ∙ ap (λ b. items_short ts && b) (on_sum xs n p (encoding t) (items_encoding ts)))
        ∙ sym (and_assoc (strings_short t) (items_short ts) _)

    pub fit_entries : (es : Entries) (p n d : ℕ) → EntriesWithin es d → At xs p (entries_encoding es) → strings_fit (entries_total es + n) xs p ≡ (entries_short es && strings_fit n xs (p + length (entries_encoding es)))
    fit_entries no_entries p n d w a = (λ i. strings_fit (none n i) xs (stay p i))
    fit_entries (next_entry k v es) p n d (key_in, value_in, rest) a =
        let a₁ = at_right xs p (encoding k) (encoding v ++ entries_encoding es) a in
        ap (λ j. strings_fit j xs p) (add_assoc (total k) (total v + entries_total es) n)
        ∙ fit_item k p (total v + entries_total es + n) d key_in (at_left xs p (encoding k) (encoding v ++ entries_encoding es) a)
        ∙ ap (λ b. strings_short k && b)
        (ap (λ j. strings_fit j xs (p + length (encoding k))) (add_assoc (total v) (entries_total es) n)
        ∙ fit_item v (p + length (encoding k)) (entries_total es + n) d value_in (at_left xs (p + length (encoding k)) (encoding v) (entries_encoding es) a₁)
        ∙ ap (λ b. strings_short v && b) (fit_entries es (p + length (encoding k) + length (encoding v)) n d rest (at_right xs (p + length (encoding k)) (encoding v) (entries_encoding es) a₁)
        ∙ ap (λ b. entries_short es && b) (on_sum xs n (p + length (encoding k)) (encoding v) (entries_encoding es) ∙ on_sum xs n p (encoding k) (encoding v ++ entries_encoding es)))
        ∙ sym (and_assoc (strings_short v) (entries_short es) _))
        ∙ sym (and_assoc (strings_short k) (strings_short v && entries_short es) _)
