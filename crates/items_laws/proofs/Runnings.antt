-- What is read at a place is what stands there, and the other way round.
use Rattle.std.proofs.Common.{◌≡◌, ℕ, ◌+◌, ◌-◌, ◌^◌, ◌<◌, ◌≤◌, Bool, true, false, cond, ◌&&◌, eqb, ltb, leb, List, [], ◌++◌, length, ℤ, pos, negsuc, Some, None, Ok, Err, Option, Result, sym, refl, ap, ◌∙◌, subst, arith, length-append}
use Rattle.std.proofs.lemmas.Bool.{and_parts}
use Rattle.std.proofs.lemmas.Bool.Decides.{nat_tests}
use Rattle.text.specs.Table.{is_text}
use Rattle.items.specs.declared.types.Fault.{Fault}
use Rattle.items.specs.declared.types.Span.{Span}
use Rattle.items.specs.Heads.{Head, head_at, head_size, part}
use Rattle.items.specs.Reading.{Walk, item_of, containers, message_items, start_at}
use Rattle.items.specs.Fields.{bind, picked, argument_at, either_sign, integer_at, key_at, string_at, text_at, closed, map_at}
use Rattle.items.specs.Trees.{head_of, Item, text, map, Entries, map_size, encoding, entries_encoding, total, Within, Canonical, At, Runs}
use Rattle.items.proofs.Picks.{pick_some, pick_other, unsigned-fits, negative_fits, string-some, text-good, map_on, closed_some}
use Rattle.items_laws.specs.Laws.{Octets}
use Rattle.items_laws.specs.Exact.{Spot, TextFits, HeadExact, KeyExact, UnsignedExact, NegativeExact, integer, Fits63, IntegerExact, BytesExact, TextExact, MapExact}
use Rattle.items_laws.proofs.Written.{at_left, at_right, at_part, Reads, head-back}
use Rattle.items_laws.proofs.Backs.{walk, item_back}
use Rattle.items_laws.proofs.Accepted.{head-wrote, at_both, at_slice, item_sound}
use Rattle.items_laws.proofs.Unique.{major, argument, shaped, entries_in, head-reads}

pub none-some : {X : Type 0} {x : X} → None ≡ Some x → ⊥
none-some p = let z : ◌≡◌ {A = ℕ} 0 1 = cc in omega arith

pub some_same : {X : Type 0} {x y : X} → Some x ≡ Some y → x ≡ y
some_same p = cc

-- what a bind came through
pub record Bound {V W : Type 0} (r : Option V) (k : V → Option W) (x : W) : Type 0 where
  pub got : V
  pub first : r ≡ Some got
  pub rest : k got ≡ Some x

pub bound : {V W : Type 0} (r : Option V) (k : V → Option W) (x : W) → bind r k ≡ Some x → Bound r k x
bound None k x is = absurd (none-some is)
bound (Some y) k x is = record { got = y; first = refl; rest = is }

pub cond-some : {W : Type 0} (b : Bool) (y x : W) → cond b (Some y) None ≡ Some x → (b ≡ true) × (y ≡ x)
cond-some true y x is = (refl, cc)
cond-some false y x is = absurd (none-some is)

-- what runs through two runs through the one and then the other
pub record Cut (os : List ℕ) (p : ℕ) (xs ys : List ℕ) (q : ℕ) : Type 0 where
  pub here : Runs os p xs (p + length xs)
  pub then : Runs os (p + length xs) ys q

pub cut : {os : List ℕ} {p q : ℕ} (xs ys : List ℕ) → Runs os p (xs ++ ys) q → Cut os p xs ys q
cut {os = os} {p = p} xs ys r = record {
  here = record { at = at_left os p xs ys r.at; on = refl };
  then = record { at = at_right os p xs ys r.at; on = omega (arith, r.on, length-append xs ys) };
}

pub runs-nothing : {os : List ℕ} {p : ℕ} → p ≤ length os → Runs os p [] p
runs-nothing h = record { at = record { within = omega arith; same = λ i lt. absurd (omega arith) }; on = omega arith }

pub runs_in : {os : List ℕ} {p q : ℕ} {xs : List ℕ} → Runs os p xs q → q ≤ length os
runs_in r = omega (arith, r.on, r.at.within)

-- a head
pub argument-back : (os : List ℕ) (m p n q : ℕ) → n < 2 ^ 64 → Runs os p (head_of m n) q → argument_at m os p ≡ Some (n, q)
argument-back os m p n q fits r =
    let b = head-back os p m n fits r.at in
    pick_some m os p (record { major = m; argument = n; shortest = true }) (sym b.is) refl refl q (r.on ∙ ap (λ k. p + k) (sym b.long))

pub key_back : (os : List ℕ) (n p q : ℕ) → n < 2 ^ 64 → Runs os p (head_of 0 n) q → key_at n os p ≡ Some q
unfolding key_at
key_back os n p q fits r = let e = argument-back os 0 p n q fits r in rw e (grind (arith, nat_tests))

module _ (os : List ℕ) (octet : Octets os) where
  pub runs_join : {p q r : ℕ} {xs ys : List ℕ} → Runs os p xs q → Runs os q ys r → Runs os p (xs ++ ys) r
  runs_join {p = p} {xs = xs} {ys = ys} a b = record {
    at = at_both os octet p xs ys a.at (subst (λ k. At os k ys) a.on b.at);
    on = omega (arith, a.on, b.on, length-append xs ys);
  }

  pub argument-sound : (m p n q : ℕ) → argument_at m os p ≡ Some (n, q) → Runs os p (head_of m n) q × (n < 2 ^ 64)
  unfolding argument_at
  argument-sound m p n q is = by (head_at os p) refl is
    where
      by : (r : Result Head Fault) → head_at os p ≡ r → picked m (p + head_size os p) r ≡ Some (n, q) → Runs os p (head_of m n) q × (n < 2 ^ 64)
      by (Err e) eq got = absurd (none-some got)
      by (Ok h) eq got =
          let c = cond-some (eqb h.major m && h.shortest) (h.argument, p + head_size os p) (n, q) got in
          let b = and_parts (eqb h.major m) h.shortest c.0 in
          let same : h.major ≡ m = grind (arith, nat_tests, b.0) in
          let w = head-wrote os octet p h eq b.1 in
          let arg : h.argument ≡ n = ap (λ x. x.0) c.1 in
          let on : p + head_size os p ≡ q = ap (λ x. x.1) c.1 in
          let e : head_of h.major h.argument ≡ head_of m n = (λ i. head_of (same i) (arg i)) in
          (record { at = subst (At os p) e w.at; on = sym on ∙ ap (λ k. p + k) (w.long ∙ ap length e) }, subst (λ k. k < 2 ^ 64) arg w.fits)

  pub key-sound : (n p q : ℕ) → key_at n os p ≡ Some q → Runs os p (head_of 0 n) q
  unfolding key_at
  key-sound n p q is =
      let b = bound (argument_at 0 os p) (λ x. cond (eqb x.0 n) (Some x.1) None) q is in
      let c = cond-some (eqb b.got.0 n) b.got.1 q b.rest in
      let same : b.got.0 ≡ n = grind (arith, nat_tests, c.0) in
      (argument-sound 0 p n q (b.first ∙ (λ i. Some (same i, c.1 i)))).0

  -- a string: what stands at its place
  pub record Strung (m p : ℕ) (s : Span) (q : ℕ) : Type 0 where
    pub runs : Runs os p (head_of m s.len ++ part os s.start s.len) q
    pub long : length (part os s.start s.len) ≡ s.len
    pub there : At os s.start (part os s.start s.len)
    pub fits : s.len < 2 ^ 64

  pub string-sound : (m p : ℕ) (s : Span) (q : ℕ) → string_at m os p ≡ Some (s, q) → Strung m p s q
  unfolding string_at
  string-sound m p s q is =
      let b = bound (argument_at m os p) (λ x. cond (leb (x.1 + x.0) (length os)) (Some (record { start = x.1; len = x.0 }, x.1 + x.0)) None) (s, q) is in
      let c = cond-some (leb (b.got.1 + b.got.0) (length os)) (record { start = b.got.1; len = b.got.0 }, b.got.1 + b.got.0) (s, q) b.rest in
      let start : b.got.1 ≡ s.start = ap (λ x. x.0.start) c.1 in
      let many : b.got.0 ≡ s.len = ap (λ x. x.0.len) c.1 in
      let on : b.got.1 + b.got.0 ≡ q = ap (λ x. x.1) c.1 in
      let room : b.got.1 + b.got.0 ≤ length os = grind (arith, nat_tests, c.0) in
      let h = argument-sound m p s.len s.start (b.first ∙ (λ i. Some (many i, start i))) in
      let a = at_slice os octet s.start s.len (omega arith) in
      record {
        runs = runs_join h.0 (record { at = a.0; on = omega (arith, a.1) });
        long = a.1;
        there = a.0;
        fits = h.1;
      }

pub string-back : (os : List ℕ) (m p : ℕ) (bs : List ℕ) (q : ℕ) → length bs < 2 ^ 64 → Runs os p (head_of m (length bs) ++ bs) q → (s : Span) × (string_at m os p ≡ Some (s, q)) × Spot os s bs
string-back os m p bs q fits r =
    let c = cut (head_of m (length bs)) bs r in
    let t = c.then in
    let e = argument-back os m p (length bs) (p + length (head_of m (length bs))) fits c.here in
    let start : ℕ = p + length (head_of m (length bs)) in (
      record { start = start; len = length bs },
      string-some m os p (length bs) start (sym e) (omega (arith, t.on, t.at.within)) ∙ ap (λ k. Some (record { start = start; len = length bs }, k)) (sym t.on),
      record { there = t.at; long = refl },
    )

pub head-exact : HeadExact
head-exact = record { sound = argument-sound; back = argument-back }

pub key-exact : KeyExact
unfolding encoding
key-exact = record { sound = key-sound; back = key_back }

pub unsigned-exact : UnsignedExact
unfolding encoding
unsigned-exact = record {
  sound = λ os octet p v q is. let h = argument-sound os octet 0 p v q is in (v, h.1, h.0, refl);
  back = λ os p n q fits r. (n, argument-back os 0 p n q fits r, refl);
}

pub negative-exact : NegativeExact
unfolding encoding
negative-exact = record {
  sound = λ os octet p v q is. let h = argument-sound os octet 1 p v q is in (v, h.1, h.0, refl);
  back = λ os p n q fits r. (n, argument-back os 1 p n q fits r, refl);
}

integer-sound : (os : List ℕ) → Octets os → (p : ℕ) (v : ℤ) (q : ℕ) → integer_at os p ≡ Some (v, q) → (z : ℤ) × Fits63 z × Runs os p (encoding (integer z)) q × (v ≡ z)
unfolding integer_at encoding
integer-sound os octet p v q is = by (argument_at 0 os p) refl (argument_at 1 os p) refl is
  where
    by : (x : Option (ℕ × ℕ)) → argument_at 0 os p ≡ x → (y : Option (ℕ × ℕ)) → argument_at 1 os p ≡ y → either_sign x y ≡ Some (v, q) → (z : ℤ) × Fits63 z × Runs os p (encoding (integer z)) q × (v ≡ z)
    by (Some x) eq y _ got =
        let c = cond-some (ltb x.0 (2 ^ 63)) (pos x.0, x.1) (v, q) got in
        let h = argument-sound os octet 0 p x.0 x.1 eq in
        (pos x.0, grind (arith, nat_tests, c.0), subst (Runs os p (head_of 0 x.0)) (ap (λ k. k.1) c.1) h.0, ap (λ k. k.0) (sym c.1))
    by None _ None _ got = absurd (none-some got)
    by None _ (Some x) eq got =
        let c = cond-some (ltb x.0 (2 ^ 63)) (negsuc x.0, x.1) (v, q) got in
        let h = argument-sound os octet 1 p x.0 x.1 eq in
        (negsuc x.0, grind (arith, nat_tests, c.0), subst (Runs os p (head_of 1 x.0)) (ap (λ k. k.1) c.1) h.0, ap (λ k. k.0) (sym c.1))

integer-back : (os : List ℕ) (p : ℕ) (z : ℤ) (q : ℕ) → Fits63 z → Runs os p (encoding (integer z)) q → (v : ℤ) × (integer_at os p ≡ Some (v, q)) × (v ≡ z)
unfolding encoding
integer-back os p (pos n) q fits r = (pos n, unsigned-fits os p n q (sym (argument-back os 0 p n q (omega arith) r)) fits, refl)
integer-back os p (negsuc n) q fits r =
    let b = head-back os p 1 n (omega arith) r.at in
    let none = pick_other 0 os p (record { major = 1; argument = n; shortest = true }) (sym b.is) (λ m _. omega arith) in
    (negsuc n, negative_fits os p n q (sym none) (sym (argument-back os 1 p n q (omega arith) r)) fits, refl)

pub integer-exact : IntegerExact
integer-exact = record { sound = integer-sound; back = integer-back }

pub bytes-exact : BytesExact
unfolding encoding
bytes-exact = record {
  sound = λ os octet p s q is.
      let r = string-sound os octet 2 p s q is in
      let bs : List ℕ = part os s.start s.len in
      let l : length bs ≡ s.len = r.long in
      (bs, omega (arith, l, r.fits), subst (λ k. Runs os p (head_of 2 k ++ bs) q) (sym l) r.runs, record { there = r.there; long = sym l });
  back = λ os p bs q fits r. string-back os 2 p bs q fits r;
}

text-sound : (os : List ℕ) → Octets os → (p : ℕ) (s : Span) (q : ℕ) → text_at os p ≡ Some (s, q) → (bs : List ℕ) × TextFits bs × Runs os p (encoding (text bs)) q × Spot os s bs
unfolding text_at encoding
text-sound os octet p s q is =
    let b = bound (string_at 3 os p) (λ x. cond (is_text (part os x.0.start x.0.len)) (Some x) None) (s, q) is in
    let c = cond-some (is_text (part os b.got.0.start b.got.0.len)) b.got (s, q) b.rest in
    let r = string-sound os octet 3 p s q (b.first ∙ ap Some c.1) in
    let bs : List ℕ = part os s.start s.len in
    let l : length bs ≡ s.len = r.long in
    let t : is_text bs ≡ true = ap (λ x. is_text (part os x.0.start x.0.len)) (sym c.1) ∙ c.0 in
    (bs, record { fits = omega (arith, l, r.fits); utf8 = t }, subst (λ k. Runs os p (head_of 3 k ++ bs) q) (sym l) r.runs, record { there = r.there; long = sym l })

text-back : (os : List ℕ) (p : ℕ) (bs : List ℕ) (q : ℕ) → TextFits bs → Runs os p (encoding (text bs)) q → (s : Span) × (text_at os p ≡ Some (s, q)) × Spot os s bs
unfolding encoding
text-back os p bs q good r =
    let b = string-back os 3 p bs q good.fits r in
    let s : Span = b.0 in
    let e : part os s.start s.len ≡ bs = ap (part os s.start) b.2.long ∙ at_part os s.start bs b.2.there in
    (s, text-good os p s q (sym b.1) (ap is_text e ∙ good.utf8), b.2)

pub text-exact : TextExact
text-exact = record { sound = text-sound; back = text-back }

-- what begins as a map is one
a_map : (os : List ℕ) (p n q : ℕ) → argument_at 5 os p ≡ Some (n, q) → (t : Item) → Reads os p (major t) (argument t) (length (head_of (major t) (argument t))) → (es : Entries) × (t ≡ map es)
unfolding argument_at
a_map os p n q is t r =
    let got = ap (picked 5 (p + head_size os p)) (sym r.is) ∙ is in
    let c = cond-some (eqb (major t) 5 && true) (argument t, p + head_size os p) (n, q) got in
    let five : 5 ≡ major t = grind (arith, nat_tests, c.0) in
    (entries_in t, shaped t 5 (argument t) (five, refl))

map-sound : (os : List ℕ) → Octets os → (p : ℕ) (s : Span) (q : ℕ) → map_at os p ≡ Some (s, q) → (es : Entries) × Canonical (map es) × Runs os p (encoding (map es)) q × Spot os s (encoding (map es))
unfolding map_at
map-sound os octet p s q is =
    let b = bound (argument_at 5 os p) (λ _. closed p (item_of containers os (start_at p))) (s, q) is in
    by b.got b.first (item_of containers os (start_at p)) refl b.rest
  where
    by : (x : ℕ × ℕ) → argument_at 5 os p ≡ Some x → (r : Result Walk Fault) → item_of containers os (start_at p) ≡ r → closed p r ≡ Some (s, q) → (es : Entries) × Canonical (map es) × Runs os p (encoding (map es)) q × Spot os s (encoding (map es))
    by x first (Err e) eq got = absurd (none-some got)
    by x first (Ok w) eq got =
        let c = cond-some w.deterministic (record { start = p; len = w.place - p }, w.place) (s, q) got in
        let t = item_sound os octet containers (start_at p) w eq c.0 in
        let m = a_map os p x.0 x.1 first t.tree (head-reads os t.tree containers p t.within t.at) in
        let es : Entries = m.0 in
        let run : Runs os p (encoding (map es)) w.place = subst (λ y. Runs os p (encoding y) w.place) m.1 (record { at = t.at; on = t.on }) in
        let good : Canonical (map es) = subst Canonical m.1 (record { within = t.within; few = omega (arith, t.left_by); ascends = t.ascends }) in
        subst (λ y. (es : Entries) × Canonical (map es) × Runs os p (encoding (map es)) y.1 × Spot os y.0 (encoding (map es))) c.1
        (es, good, run, record { there = run.at; long = omega (arith, run.on) })

map_back : (os : List ℕ) (p : ℕ) (es : Entries) (q : ℕ) → Canonical (map es) → Runs os p (encoding (map es)) q → (s : Span) × (map_at os p ≡ Some (s, q)) × Spot os s (encoding (map es))
unfolding encoding Within
map_back os p es q good r =
    let a = cut (head_of 5 (map_size es)) (entries_encoding es) r in
    let first = argument-back os 5 p (map_size es) _ (omega (arith, good.within.0)) a.here in
    let it = item_back (map es) os p containers message_items true good.within good.few good.ascends r.at in (
      record { start = p; len = q - p },
      map_on os p _ (sym first) _ it ∙ closed_some p (walk (p + length (encoding (map es))) (message_items - total (map es)) true) q refl r.on,
      record { there = r.at; long = omega (arith, r.on) },
    )

pub map-exact : MapExact
map-exact = record { sound = map-sound; back = map_back }
