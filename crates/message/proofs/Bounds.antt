-- What is read lies within the octets.
use Rattle.std.proofs.Common.{◌≡◌, ℕ, ◌+◌, ◌-◌, ◌/◌, ◌%◌, ◌<◌, ◌≤◌, Bool, true, false, cond, ◌&&◌, eqb, ltb, leb, List, length, get_or, drop, IfSome, MatchOption, Some, None, Ok, Err, Option, Result, sym, refl, ap, ◌∙◌, arith, length-drop, length-take-le}
use Rattle.std.proofs.lemmas.Bool.Decides.{nat_tests}
use Rattle.std.proofs.lemmas.Bool.{and_parts}
use Rattle.std.proofs.lemmas.Option.{cond_some, same_Some}
use Rattle.items.specs.declared.types.Span.{Span}
use Rattle.items.specs.Heads.{part}
use Rattle.items.specs.declared.types.Fault.{Fault}
use Rattle.items.specs.Heads.{Head, head_at, head_from, long_head, head_size, width}
use Rattle.items.specs.Spans.{shown}
use Rattle.items.specs.Fields.{bind, picked, argument_at, key_at, string_at}
use Rattle.message.specs.declared.entries.Entries.{Entries}
use Rattle.message.specs.Entries.{map_of, id_at, context_at, next_key, ended, Leaves}

-- what a bind came through
pub record Bound {V W : Type 0} (r : Option V) (k : V → Option W) (x : W) : Type 0 where
  pub got : V
  pub first : r ≡ Some got
  pub rest : k got ≡ Some x

pub bound : {V W : Type 0} (r : Option V) (k : V → Option W) (x : W) → bind r k ≡ Some x → Bound r k x
bound None k x is = cc
bound (Some y) k x is = record { got = y; first = refl; rest = is }

pub ended_is : {X : Type 0} (left : ℕ) (x y : X) → ended left x ≡ Some y → (left ≡ 0) × (x ≡ y)
ended_is left x y is = let c = cond_some (eqb left 0) x y is in (grind (arith, nat_tests, c.0), c.1)

pub record Lies (os : List ℕ) (s : Span) (q : ℕ) : Type 0 where
  pub on : s.start + s.len ≡ q
  pub within : q ≤ length os

pub string_lies : (m : ℕ) (os : List ℕ) (p : ℕ) (s : Span) (q : ℕ) → string_at m os p ≡ Some (s, q) → Lies os s q
unfolding string_at
string_lies m os p s q is =
    let b = bound (argument_at m os p) (λ x. cond (leb (x.1 + x.0) (length os)) (Some (record { start = x.1; len = x.0 }, x.1 + x.0)) None) (s, q) is in
    let c = cond_some (leb (b.got.1 + b.got.0) (length os)) (record { start = b.got.1; len = b.got.0 }, b.got.1 + b.got.0) (s, q) b.rest in
    let start : b.got.1 ≡ s.start = ap (λ x. x.0.start) c.1 in
    let many : b.got.0 ≡ s.len = ap (λ x. x.0.len) c.1 in
    let on : b.got.1 + b.got.0 ≡ q = ap (λ x. x.1) c.1 in
    let room : b.got.1 + b.got.0 ≤ length os = grind (arith, nat_tests, c.0) in
    record { on = omega arith; within = omega arith }

-- the octets of a string that was read are shown
pub lies_shown : (os : List ℕ) (s : Span) (q : ℕ) → Lies os s q → shown os s ≡ Some (part os s.start s.len)
unfolding shown
lies_shown os s q l = grind (arith, nat_tests, l.on, l.within)

pub part-long : (os : List ℕ) (p n : ℕ) → p + n ≤ length os → length (part os p n) ≡ n
part-long os p n h = length-take-le n (drop p os) (omega (arith, length-drop p os))

pub id_some : (os : List ℕ) (p : ℕ) (s : Span) (q : ℕ) → Some (s, q) ≡ string_at 2 os p → s.len ≡ 16 → id_at os p ≡ Some (part os s.start 16, q)
unfolding id_at
id_some os p s q is sixteen = rw (sym is) (grind (arith, nat_tests))

pub for_some : {X : Type 0} (r : Option X) {P : Type 0} → P → IfSome r (λ _. P)
for_some None h = tt
for_some (Some x) h = h

cond_ok : {X E : Type 0} (b : Bool) (r : Result X E) (e : E) (x : X) → cond b r (Err e) ≡ Ok x → (b ≡ true) × (r ≡ Ok x)
cond_ok true r e x is = (refl, is)
cond_ok false r e x is = cc

head-major : (os : List ℕ) (p major info : ℕ) (h : Head) → head_from os p major info ≡ Ok h → h.major ≡ major
unfolding head_from long_head
head-major os p major info h is = by (ltb info 24) (ltb info 28) (leb (p + 1 + width info) (length os)) (eqb info 31) _ _ _ _ _ is
  where
    by : (a b c d : Bool) (n m : ℕ) (s : Bool) (e f : Fault) → cond a (Ok (record { major = major; argument = n; shortest = true })) (cond b (cond c (Ok (record { major = major; argument = m; shortest = s })) (Err e)) (cond d (Err f) (Err e))) ≡ Ok h → h.major ≡ major
    by true b c d n m s e f got = cc
    by false true true d n m s e f got = cc
    by false true false d n m s e f got = cc
    by false false c true n m s e f got = cc
    by false false c false n m s e f got = cc

size-some : (os : List ℕ) (p : ℕ) → 1 ≤ head_size os p
unfolding head_size
size-some os p = by (ltb (get_or os p 0 % 32) 24)
  where
    by : (b : Bool) → 1 ≤ cond b 1 (1 + width (get_or os p 0 % 32))
    by true = omega arith
    by false = omega arith

-- where a head of major type m stands
pub record Headed (os : List ℕ) (m p q : ℕ) : Type 0 where
  pub on : p < q
  pub within : p < length os
  pub major : get_or os p 0 / 32 ≡ m

pub argument-on : (m : ℕ) (os : List ℕ) (p n q : ℕ) → argument_at m os p ≡ Some (n, q) → Headed os m p q
unfolding argument_at head_at
argument-on m os p n q is = by (head_at os p) refl is
  where
    by : (r : Result Head Fault) → head_at os p ≡ r → picked m (p + head_size os p) r ≡ Some (n, q) → Headed os m p q
    by (Err e) eq got = cc
    by (Ok h) eq got =
        let c = cond_some (eqb h.major m && h.shortest) (h.argument, p + head_size os p) (n, q) got in
        let b = and_parts (eqb h.major m) h.shortest c.0 in
        let same : h.major ≡ m = grind (arith, nat_tests, b.0) in
        let on : p + head_size os p ≡ q = ap (λ x. x.1) c.1 in
        let i = cond_ok (ltb p (length os)) (head_from os p (get_or os p 0 / 32) (get_or os p 0 % 32)) _ h eq in
        record { on = omega (arith, size-some os p); within = grind (arith, nat_tests, i.0); major = sym (head-major os p (get_or os p 0 / 32) (get_or os p 0 % 32) h i.1) ∙ same }

pub map_on : (required : ℕ) (os : List ℕ) (p left q : ℕ) → map_of required os p ≡ Some (left, q) → Headed os 5 p q
unfolding map_of
map_on required os p left q is =
    let b = bound (argument_at 5 os p) (λ x. cond (leb required x.0) (Some (x.0 - required, x.1)) None) (left, q) is in
    let c = cond_some (leb required b.got.0) (b.got.0 - required, b.got.1) (left, q) b.rest in
    argument-on 5 os p b.got.0 q (b.first ∙ (λ i. Some (b.got.0, (c.1 i).1)))

pub key-on : (k : ℕ) (os : List ℕ) (p q : ℕ) → key_at k os p ≡ Some q → p < q
unfolding key_at
key-on k os p q is =
    let b = bound (argument_at 0 os p) (λ x. cond (eqb x.0 k) (Some x.1) None) q is in
    let c = cond_some (eqb b.got.0 k) b.got.1 q b.rest in
    (argument-on 0 os p b.got.0 q (b.first ∙ (λ i. Some (b.got.0, c.1 i)))).on

pub string-on : (m : ℕ) (os : List ℕ) (p : ℕ) (s : Span) (q : ℕ) → string_at m os p ≡ Some (s, q) → p < s.start
unfolding string_at
string-on m os p s q is =
    let b = bound (argument_at m os p) (λ x. cond (leb (x.1 + x.0) (length os)) (Some (record { start = x.1; len = x.0 }, x.1 + x.0)) None) (s, q) is in
    let c = cond_some (leb (b.got.1 + b.got.0) (length os)) (record { start = b.got.1; len = b.got.0 }, b.got.1 + b.got.0) (s, q) b.rest in
    let start : b.got.1 ≡ s.start = ap (λ x. x.0.start) c.1 in
    omega (arith, (argument-on m os p b.got.0 b.got.1 b.first).on)

pub context_some : (os : List ℕ) (p : ℕ) (s : Span) (q : ℕ) → context_at os p ≡ Some (s, q) → string_at 2 os p ≡ Some (s, q)
unfolding context_at
context_some os p s q is =
    let b = bound (string_at 2 os p) (λ x. cond (leb x.0.len 32) (Some x) None) (s, q) is in
    let c = cond_some (leb b.got.0.len 32) b.got (s, q) b.rest in
    b.first ∙ ap Some c.1

pub context_on : (os : List ℕ) (p : ℕ) (s : Span) (q : ℕ) → context_at os p ≡ Some (s, q) → p ≤ q
context_on os p s q is = let e = context_some os p s q is in omega (arith, string-on 2 os p s q e, (string_lies 2 os p s q e).on)

next-on : (left k : ℕ) (os : List ℕ) (p a : ℕ) → next_key left k os p ≡ Some a → p < a
unfolding next_key
next-on left k os p a = by (eqb left 0)
  where
    by : (b : Bool) → cond b None (key_at k os p) ≡ Some a → p < a
    by true is = cc
    by false is = key-on k os p a is

-- an entry that may be there goes on where its reader does
pub optional-on : {V : Type 0} (k : ℕ) (parse : List ℕ → ℕ → Option (V × ℕ)) → ((os : List ℕ) (p : ℕ) (v : V) (q : ℕ) → parse os p ≡ Some (v, q) → p ≤ q)
    → (old new : Entries) (o : Option V)
    → MatchOption (next_key old.left k old.octets.now old.place) (Leaves (Some o) old new (Some (None, old.left, old.place))) (λ a. (came : Option (V × ℕ)) × (came ≡ parse old.octets.now a) × Leaves (Some o) old new (bind came (λ x. Some (Some x.0, old.left - 1, x.1))))
    → old.place ≤ new.place
optional-on {V = V} k parse on old new o = by (next_key old.left k old.octets.now old.place) (next-on old.left k old.octets.now old.place)
  where
    by : (r : Option ℕ) → ((a : ℕ) → r ≡ Some a → old.place < a) → MatchOption r (Leaves (Some o) old new (Some (None, old.left, old.place))) (λ a. (came : Option (V × ℕ)) × (came ≡ parse old.octets.now a) × Leaves (Some o) old new (bind came (λ x. Some (Some x.0, old.left - 1, x.1)))) → old.place ≤ new.place
    by None ahead got = let e : old.place ≡ new.place = ap (λ x. x.2) (same_Some _ _ got.0) in omega arith
    by (Some a) ahead (came, is, got) =
        let b = bound came (λ x. Some (Some x.0, old.left - 1, x.1)) (o, new.left, new.place) got.0 in
        let e : b.got.1 ≡ new.place = ap (λ x. x.2) (same_Some _ _ b.rest) in
        omega (arith, ahead a refl, on old.octets.now a b.got.0 b.got.1 (sym is ∙ b.first))
