-- No two trees within the limits have one encoding.
use Rattle.std.proofs.Common.{◌≡◌, ℕ, ◌+◌, ◌-◌, true, cond, eqb, List, [], ◌++◌, length, get_or, Ok, Result, sym, refl, ap, ◌∙◌, subst, zero-add, arith}
use Rattle.items.specs.declared.types.Fault.{Fault}
use Rattle.items.specs.Heads.{Head, part}
use Rattle.items.specs.Trees.{head_of, Item, unsigned, negative, bytes, text, array, map, simple_false, simple_true, simple_null, Items, no_items, next_item, Entries, no_entries, next_entry, array_size, map_size, encoding, items_encoding, entries_encoding, Within, ItemsWithin, EntriesWithin, At}
use Rattle.items_laws.proofs.Written.{at_part, at_left, at_right, Reads, short, head-back}

-- the head that an item is encoded with
abbrev pub major : Item → ℕ
major (unsigned n) = 0
major (negative n) = 1
major (bytes bs) = 2
major (text bs) = 3
major (array ts) = 4
major (map es) = 5
major simple_false = 7
major simple_true = 7
major simple_null = 7

abbrev pub argument : Item → ℕ
argument (unsigned n) = n
argument (negative n) = n
argument (bytes bs) = length bs
argument (text bs) = length bs
argument (array ts) = array_size ts
argument (map es) = map_size es
argument simple_false = 20
argument simple_true = 21
argument simple_null = 22

-- what lies behind the head
pub content : Item → List ℕ
content (unsigned n) = []
content (negative n) = []
content (bytes bs) = bs
content (text bs) = bs
content (array ts) = []
content (map es) = []
content simple_false = []
content simple_true = []
content simple_null = []

pub items_in : Item → Items
items_in (unsigned n) = no_items
items_in (negative n) = no_items
items_in (bytes bs) = no_items
items_in (text bs) = no_items
items_in (array ts) = ts
items_in (map es) = no_items
items_in simple_false = no_items
items_in simple_true = no_items
items_in simple_null = no_items

pub entries_in : Item → Entries
entries_in (unsigned n) = no_entries
entries_in (negative n) = no_entries
entries_in (bytes bs) = no_entries
entries_in (text bs) = no_entries
entries_in (array ts) = no_entries
entries_in (map es) = es
entries_in simple_false = no_entries
entries_in simple_true = no_entries
entries_in simple_null = no_entries

-- the item of these parts
abbrev pub built : ℕ → ℕ → List ℕ → Items → Entries → Item
built m n bs ts es =
    cond (eqb m 0) (unsigned n)
    (cond (eqb m 1) (negative n)
    (cond (eqb m 2) (bytes bs)
    (cond (eqb m 3) (text bs)
    (cond (eqb m 4) (array ts)
    (cond (eqb m 5) (map es)
    (cond (eqb n 20) simple_false
    (cond (eqb n 21) simple_true simple_null)))))))

rebuilt : (u : Item) → u ≡ built (major u) (argument u) (content u) (items_in u) (entries_in u)
unfolding content items_in entries_in
rebuilt (unsigned n) = refl
rebuilt (negative n) = refl
rebuilt (bytes bs) = refl
rebuilt (text bs) = refl
rebuilt (array ts) = refl
rebuilt (map es) = refl
rebuilt simple_false = refl
rebuilt simple_true = refl
rebuilt simple_null = refl

-- an item with this head
pub shaped : (u : Item) (m n : ℕ) → (m ≡ major u) × (n ≡ argument u) → u ≡ built m n (content u) (items_in u) (entries_in u)
shaped u m n e = rebuilt u ∙ (λ i. built (sym e.0 i) (sym e.1 i) (content u) (items_in u) (entries_in u))

pub head-reads : (os : List ℕ) (t : Item) (d p : ℕ) → Within t d → At os p (encoding t) → Reads os p (major t) (argument t) (length (head_of (major t) (argument t)))
unfolding encoding Within head_of
head-reads os (unsigned n) d p fits a = head-back os p 0 n fits a
head-reads os (negative n) d p fits a = head-back os p 1 n fits a
head-reads os (bytes bs) d p fits a = head-back os p 2 (length bs) fits (at_left os p (head_of 2 (length bs)) bs a)
head-reads os (text bs) d p (fits, utf8) a = head-back os p 3 (length bs) fits (at_left os p (head_of 3 (length bs)) bs a)
head-reads os (array ts) d p (few, deep, inner) a = head-back os p 4 (array_size ts) (omega arith) (at_left os p (head_of 4 (array_size ts)) (items_encoding ts) a)
head-reads os (map es) d p (few, deep, inner) a = head-back os p 5 (map_size es) (omega arith) (at_left os p (head_of 5 (map_size es)) (entries_encoding es) a)
head-reads os simple_false d p fits a = short os p 7 20 (omega arith) a
head-reads os simple_true d p fits a = short os p 7 21 (omega arith) a
head-reads os simple_null d p fits a = short os p 7 22 (omega arith) a

ok_same : {X : Type 0} {x y : X} → ◌≡◌ {A = Result X Fault} (Ok x) (Ok y) → x ≡ y
ok_same e = cc

same_head : (os : List ℕ) (p m n l m' n' l' : ℕ) → Reads os p m n l → Reads os p m' n' l' → (m ≡ m') × (n ≡ n')
same_head os p m n l m' n' l' r r' =
    let e : ◌≡◌ {A = Head} (record { major = m; argument = n; shortest = true }) (record { major = m'; argument = n'; shortest = true }) = ok_same (sym r.is ∙ r'.is) in
    (ap (λ h. h.major) e, ap (λ h. h.argument) e)

pub same-part : (os : List ℕ) (p q : ℕ) (xs ys : List ℕ) → At os p xs → At os q ys → p ≡ q → length xs ≡ length ys → xs ≡ ys
same-part os p q xs ys a b e l = sym (at_part os p xs a) ∙ (λ i. part os (e i) (l i)) ∙ at_part os q ys b

module _ (os : List ℕ) where
  -- the heads of two items at one place
  heads : (t u : Item) (d e p : ℕ) → Within t d → Within u e → At os p (encoding t) → At os p (encoding u) → (major t ≡ major u) × (argument t ≡ argument u)
  heads t u d e p wt wu a b = same_head os p _ _ _ _ _ _ (head-reads os t d p wt a) (head-reads os u e p wu b)

  same-string : (m p : ℕ) (bs cs : List ℕ) → length bs ≡ length cs → At os p (head_of m (length bs) ++ bs) → At os p (head_of m (length cs) ++ cs) → bs ≡ cs
  same-string m p bs cs l a b = same-part os _ _ bs cs (at_right os p _ bs a) (at_right os p _ cs b) (ap (λ n. p + length (head_of m n)) l) l

  mutual
    unfolding encoding Within

    pub same_item : (t u : Item) (d e p : ℕ) → Within t d → Within u e → At os p (encoding t) → At os p (encoding u) → t ≡ u
    same_item (unsigned n) u d e p wt wu a b = sym (shaped u 0 n (heads (unsigned n) u d e p wt wu a b))
    same_item (negative n) u d e p wt wu a b = sym (shaped u 1 n (heads (negative n) u d e p wt wu a b))
    same_item (bytes bs) u d e p wt wu a b =
        let h = heads (bytes bs) u d e p wt wu a b in
        let is : u ≡ bytes (content u) = shaped u 2 (length bs) h in
        let l : length bs ≡ length (content u) = h.1 ∙ ap argument is in
        ap bytes (same-string 2 p bs (content u) l a (subst (λ x. At os p (encoding x)) is b)) ∙ sym is
    same_item (text bs) u d e p wt wu a b =
        let h = heads (text bs) u d e p wt wu a b in
        let is : u ≡ text (content u) = shaped u 3 (length bs) h in
        let l : length bs ≡ length (content u) = h.1 ∙ ap argument is in
        ap text (same-string 3 p bs (content u) l a (subst (λ x. At os p (encoding x)) is b)) ∙ sym is
    same_item (array ts) u d e p wt wu a b =
        let h = heads (array ts) u d e p wt wu a b in
        let us : Items = items_in u in
        let is : u ≡ array us = shaped u 4 (array_size ts) h in
        let l : array_size ts ≡ array_size us = h.1 ∙ ap argument is in
        let b' : At os (p + length (head_of 4 (array_size us))) (items_encoding us) = at_right os p (head_of 4 (array_size us)) (items_encoding us) (subst (λ x. At os p (encoding x)) is b) in
        let w' : Within (array us) e = subst (λ x. Within x e) is wu in
        ap array (same-items ts us (d - 1) (e - 1) (p + length (head_of 4 (array_size ts))) l wt.2 w'.2 (at_right os p (head_of 4 (array_size ts)) (items_encoding ts) a) (subst (λ n. At os (p + length (head_of 4 n)) (items_encoding us)) (sym l) b')) ∙ sym is
    same_item (map es) u d e p wt wu a b =
        let h = heads (map es) u d e p wt wu a b in
        let us : Entries = entries_in u in
        let is : u ≡ map us = shaped u 5 (map_size es) h in
        let l : map_size es ≡ map_size us = h.1 ∙ ap argument is in
        let b' : At os (p + length (head_of 5 (map_size us))) (entries_encoding us) = at_right os p (head_of 5 (map_size us)) (entries_encoding us) (subst (λ x. At os p (encoding x)) is b) in
        let w' : Within (map us) e = subst (λ x. Within x e) is wu in
        ap map (same_entries es us (d - 1) (e - 1) (p + length (head_of 5 (map_size es))) l wt.2 w'.2 (at_right os p (head_of 5 (map_size es)) (entries_encoding es) a) (subst (λ n. At os (p + length (head_of 5 n)) (entries_encoding us)) (sym l) b')) ∙ sym is
    same_item simple_false u d e p wt wu a b = sym (shaped u 7 20 (heads simple_false u d e p wt wu a b))
    same_item simple_true u d e p wt wu a b = sym (shaped u 7 21 (heads simple_true u d e p wt wu a b))
    same_item simple_null u d e p wt wu a b = sym (shaped u 7 22 (heads simple_null u d e p wt wu a b))

    same-items : (ts us : Items) (d e p : ℕ) → array_size ts ≡ array_size us → ItemsWithin ts d → ItemsWithin us e → At os p (items_encoding ts) → At os p (items_encoding us) → ts ≡ us
    same-items no_items no_items d e p l wt wu a b = refl
    same-items no_items (next_item u us) d e p l wt wu a b = absurd (omega arith)
    same-items (next_item t ts) no_items d e p l wt wu a b = absurd (omega arith)
    same-items (next_item t ts) (next_item u us) d e p l (wt, wts) (wu, wus) a b =
        let first = same_item t u d e p wt wu (at_left os p (encoding t) (items_encoding ts) a) (at_left os p (encoding u) (items_encoding us) b) in
        let b' = subst (λ x. At os (p + length (encoding x)) (items_encoding us)) (sym first) (at_right os p (encoding u) (items_encoding us) b) in
        let rest = same-items ts us d e (p + length (encoding t)) (omega arith) wts wus (at_right os p (encoding t) (items_encoding ts) a) b' in
        λ i. next_item (first i) (rest i)

    same_entries : (es us : Entries) (d e p : ℕ) → map_size es ≡ map_size us → EntriesWithin es d → EntriesWithin us e → At os p (entries_encoding es) → At os p (entries_encoding us) → es ≡ us
    same_entries no_entries no_entries d e p l wt wu a b = refl
    same_entries no_entries (next_entry k v us) d e p l wt wu a b = absurd (omega arith)
    same_entries (next_entry k v es) no_entries d e p l wt wu a b = absurd (omega arith)
    same_entries (next_entry k v es) (next_entry k' v' us) d e p l (wk, wv, wes) (wk', wv', wus) a b =
        let a₁ = at_right os p (encoding k) (encoding v ++ entries_encoding es) a in
        let first = same_item k k' d e p wk wk' (at_left os p (encoding k) (encoding v ++ entries_encoding es) a) (at_left os p (encoding k') (encoding v' ++ entries_encoding us) b) in
        let b₁ = subst (λ x. At os (p + length (encoding x)) (encoding v' ++ entries_encoding us)) (sym first) (at_right os p (encoding k') (encoding v' ++ entries_encoding us) b) in
        let q : ℕ = p + length (encoding k) in
        let second = same_item v v' d e q wv wv' (at_left os q (encoding v) (entries_encoding es) a₁) (at_left os q (encoding v') (entries_encoding us) b₁) in
        let b₂ = subst (λ x. At os (q + length (encoding x)) (entries_encoding us)) (sym second) (at_right os q (encoding v') (entries_encoding us) b₁) in
        let rest = same_entries es us d e (q + length (encoding v)) (omega arith) wes wus (at_right os q (encoding v) (entries_encoding es) a₁) b₂ in
        λ i. next_entry (first i) (second i) (rest i)

-- the whole of os
pub whole-at : (os xs : List ℕ) → xs ≡ os → At os 0 xs
whole-at os xs e = record { within = omega (arith, ap length e); same = λ i h. ap (λ k. get_or os k 0) (zero-add i) ∙ ap (λ l. get_or l i 0) (sym e) }

pub one-tree : (os : List ℕ) (t u : Item) (d e : ℕ) → Within t d → Within u e → encoding t ≡ os → encoding u ≡ os → t ≡ u
one-tree os t u d e wt wu is is' = same_item os t u d e 0 wt wu (whole-at os (encoding t) is) (whole-at os (encoding u) is')
