-- Single entries are read exactly where they are encoded.
use Rattle.std.proofs.Common.{◌≡◌, ℕ, suc, ◌+◌, ◌-◌, ◌^◌, ◌<◌, ◌≤◌, Bool, true, false, cond, ◌&&◌, eqb, leb, List, ◌++◌, length, Some, None, Option, sym, refl, ap, ◌∙◌, subst, append_assoc, append-nil, arith}
use Rattle.std.proofs.lemmas.Bool.Decides.{nat_tests}
use Rattle.std.proofs.lemmas.Option.{cond_some, same_Some}
use Rattle.items.specs.declared.types.Span.{Span}
use Rattle.items.specs.Heads.{part}
use Rattle.items.specs.Fields.{bind, argument_at, key_at, string_at}
use Rattle.items.specs.Trees.{Item, unsigned, bytes, Entries, no_entries, head_of, map_size, encoding, entries_encoding, Runs}
use Rattle.items_laws.specs.Laws.{Octets}
use Rattle.items_laws.specs.Exact.{Exact, Spot, Same}
use Rattle.items_laws.proofs.Written.{at_part}
use Rattle.items_laws.proofs.Runnings.{bound, cut, runs-nothing, runs_in, argument-back, argument-sound, key_back, key-sound, runs_join, bytes-exact}
use Rattle.message.specs.Entries.{map_of, id_at, alg_at, context_at, next_key, chosen, optional}
use Rattle.message.specs.Fields.{optionally}
use Rattle.message.proofs.Bounds.{id_some}
use Rattle.message_laws.specs.Shows.{Both}

-- parse reads exactly the good values of X, as they are encoded; Sees says what it shows of a value
pub record Parses {V X : Type 0} (parse : List ℕ → ℕ → Option (V × ℕ)) (item : X → Item) (Good : X → Type 0) (Sees : List ℕ → V → X → Type 0) : Type 0 where
  pub sound : (os : List ℕ) → Octets os → (p : ℕ) (v : V) (q : ℕ) → parse os p ≡ Some (v, q) → (x : X) × Good x × Runs os p (encoding (item x)) q
  pub back : (os : List ℕ) (p : ℕ) (x : X) (q : ℕ) → Good x → Runs os p (encoding (item x)) q → (v : V) × (parse os p ≡ Some (v, q)) × Sees os v x

pub parses : {V X : Type 0} {parse : List ℕ → ℕ → Option (V × ℕ)} {item : X → Item} {Good : X → Type 0} {Sees : List ℕ → V → X → Type 0} → Exact parse item Good Sees → Parses parse item Good Sees
parses e = record { sound = λ os octet p v q is. let s = e.sound os octet p v q is in (s.0, s.1, s.2); back = e.back }

id_sound : (os : List ℕ) → Octets os → (p : ℕ) (v : List ℕ) (q : ℕ) → id_at os p ≡ Some (v, q) → (bs : List ℕ) × (length bs ≡ 16) × Runs os p (encoding (bytes bs)) q
unfolding id_at
id_sound os octet p v q is =
    let b = bound (string_at 2 os p) (λ x. cond (eqb x.0.len 16) (Some (part os x.0.start 16, x.1)) None) (v, q) is in
    let s : Span = b.got.0 in
    let c = cond_some (eqb s.len 16) (part os s.start 16, b.got.1) (v, q) b.rest in
    let e = bytes-exact.sound os octet p s b.got.1 b.first in
    let sixteen : s.len ≡ 16 = grind (arith, nat_tests, c.0) in
    (e.0, sym e.3.long ∙ sixteen, subst (Runs os p (encoding (bytes e.0))) (ap (λ y. y.1) c.1) e.2)

pub id_parses : Parses id_at bytes (λ bs. length bs ≡ 16) (λ os v bs. v ≡ bs)
id_parses = record {
  sound = id_sound;
  back = λ os p bs q good r.
      let e = bytes-exact.back os p bs q (omega (arith, good)) r in
      let s : Span = e.0 in
      (part os s.start 16, id_some os p s q (sym e.1) (e.2.long ∙ good), ap (part os s.start) (sym good) ∙ at_part os s.start bs e.2.there);
}

-- an alg that a message may have
pub record IsAlg (n : ℕ) : Type 0 where
  pub least : 1 ≤ n
  pub most : n ≤ 3

alg-some : (os : List ℕ) (p n q : ℕ) → argument_at 0 os p ≡ Some (n, q) → 1 ≤ n → n ≤ 3 → alg_at os p ≡ Some (n, q)
unfolding alg_at
alg-some os p n q is a b = rw is (grind (arith, nat_tests))

alg-sound : (os : List ℕ) → Octets os → (p n q : ℕ) → alg_at os p ≡ Some (n, q) → (m : ℕ) × IsAlg m × Runs os p (encoding (unsigned m)) q
unfolding alg_at encoding
alg-sound os octet p n q is =
    let b = bound (argument_at 0 os p) (λ x. cond (leb 1 x.0 && leb x.0 3) (Some x) None) (n, q) is in
    let c = cond_some (leb 1 b.got.0 && leb b.got.0 3) b.got (n, q) b.rest in
    let low : 1 ≤ b.got.0 = grind (arith, nat_tests, c.0) in
    let high : b.got.0 ≤ 3 = grind (arith, nat_tests, c.0) in
    let e : b.got.0 ≡ n = ap (λ x. x.0) c.1 in
    (n, record { least = omega arith; most = omega arith }, (argument-sound os octet 0 p n q (b.first ∙ ap Some c.1)).0)

pub alg-parses : Parses alg_at unsigned IsAlg Same
unfolding encoding
alg-parses = record {
  sound = alg-sound;
  back = λ os p n q good r. (n, alg-some os p n q (argument-back os 0 p n q (omega (arith, good.most)) r) good.least good.most, refl);
}

context_some : (os : List ℕ) (p : ℕ) (s : Span) (q : ℕ) → string_at 2 os p ≡ Some (s, q) → s.len ≤ 32 → context_at os p ≡ Some (s, q)
unfolding context_at
context_some os p s q is few = rw is (grind (arith, nat_tests))

context_sound : (os : List ℕ) → Octets os → (p : ℕ) (s : Span) (q : ℕ) → context_at os p ≡ Some (s, q) → (bs : List ℕ) × (length bs ≤ 32) × Runs os p (encoding (bytes bs)) q
unfolding context_at
context_sound os octet p s q is =
    let b = bound (string_at 2 os p) (λ x. cond (leb x.0.len 32) (Some x) None) (s, q) is in
    let c = cond_some (leb b.got.0.len 32) b.got (s, q) b.rest in
    let e = bytes-exact.sound os octet p s q (b.first ∙ ap Some c.1) in
    let few : b.got.0.len ≤ 32 = grind (arith, nat_tests, c.0) in
    let same : b.got.0.len ≡ s.len = ap (λ y. y.0.len) c.1 in
    (e.0, omega (arith, e.3.long), e.2)

pub context_parses : Parses context_at bytes (λ bs. length bs ≤ 32) Spot
context_parses = record {
  sound = context_sound;
  back = λ os p bs q good r.
      let e = bytes-exact.back os p bs q (omega (arith, good)) r in
      (e.0, context_some os p e.0 q e.1 (omega (arith, e.2.long, good)), e.2);
}

-- the head of a map
pub map-sound : (os : List ℕ) → Octets os → (required p left q : ℕ) → map_of required os p ≡ Some (left, q) → Runs os p (head_of 5 (required + left)) q
unfolding map_of
map-sound os octet required p left q is =
    let b = bound (argument_at 5 os p) (λ x. cond (leb required x.0) (Some (x.0 - required, x.1)) None) (left, q) is in
    let c = cond_some (leb required b.got.0) (b.got.0 - required, b.got.1) (left, q) b.rest in
    let least : required ≤ b.got.0 = grind (arith, nat_tests, c.0) in
    let less : b.got.0 - required ≡ left = ap (λ x. x.0) c.1 in
    let all : b.got.0 ≡ required + left = omega arith in
    let h = argument-sound os octet 5 p b.got.0 q (b.first ∙ (λ i. Some (b.got.0, (c.1 i).1))) in
    subst (λ n. Runs os p (head_of 5 n) q) all h.0

pub map_back : (os : List ℕ) (required p left n q : ℕ) → n ≡ required + left → n < 2 ^ 64 → Runs os p (head_of 5 n) q → map_of required os p ≡ Some (left, q)
unfolding map_of
map_back os required p left n q all fits r =
    let e = argument-back os 5 p n q fits r in
    let less : n - required ≡ left = omega arith in
    let t : leb required n ≡ true = grind (arith, nat_tests) in
    rw (e, t) (ap (λ k. Some (k, q)) less)

-- what holds of a value, if there is one
abbrev pub Given : {X : Type 0} → (X → Type 0) → Option X → Type 0
Given P None = Unit {0}
Given P (Some x) = P x

-- an entry that may be there, before others
pub optionally-on : {X : Type 0} (k : ℕ) (item : X → Item) (x : Option X) (es : Entries) → entries_encoding (optionally k item x es) ≡ entries_encoding (optionally k item x no_entries) ++ entries_encoding es
unfolding encoding
optionally-on k item None es = refl
optionally-on k item (Some x) es = simp (append_assoc, append-nil)

pub optionally-size : {X : Type 0} (k : ℕ) (item : X → Item) (x : Option X) (es : Entries) → map_size (optionally k item x es) ≡ map_size (optionally k item x no_entries) + map_size es
optionally-size k item None es = omega arith
optionally-size k item (Some x) es = omega arith

pub optionally-few : {X : Type 0} (k : ℕ) (item : X → Item) (x : Option X) → map_size (optionally k item x no_entries) ≤ 1
optionally-few k item None = omega arith
optionally-few k item (Some x) = omega arith

next-is : (k : ℕ) (os : List ℕ) (p n q : ℕ) → key_at k os p ≡ Some q → next_key (suc n) k os p ≡ Some q
unfolding next_key
next-is k os p n q e = let f : eqb (suc n) 0 ≡ false = grind (arith, nat_tests) in rw (f, e)

module _ {V X : Type 0} (parse : List ℕ → ℕ → Option (V × ℕ)) (item : X → Item) (Good : X → Type 0) (Sees : List ℕ → V → X → Type 0) (ways : Parses parse item Good Sees) (k : ℕ) (small : k < 2 ^ 64) where
  -- what was read is an entry or none, and so many fewer are left
  pub record Took (os : List ℕ) (p left rest q : ℕ) : Type 0 where
    pub value : Option X
    pub counted : left ≡ map_size (optionally k item value no_entries) + rest
    pub good : Given Good value
    pub runs : Runs os p (entries_encoding (optionally k item value no_entries)) q

  pub optional-sound : (os : List ℕ) → Octets os → (left p : ℕ) (o : Option V) (rest q : ℕ) → p ≤ length os → optional left k parse os p ≡ Some (o, rest, q) → Took os p left rest q
  unfolding next_key encoding
  optional-sound os octet left p o rest q inside is = by (eqb left 0) refl (key_at k os p) refl is
    where
      none : ◌≡◌ {A = Option V × ℕ × ℕ} (None, left, p) (o, rest, q) → Took os p left rest q
      none e = subst (λ y. Took os p left y.1 y.2) e (record { value = None; counted = omega arith; good = tt; runs = runs-nothing inside })

      by : (b : Bool) → eqb left 0 ≡ b → (c : Option ℕ) → key_at k os p ≡ c → chosen left parse os p (cond b None c) ≡ Some (o, rest, q) → Took os p left rest q
      by true z c _ got = none (same_Some _ _ got)
      by false z None _ got = none (same_Some _ _ got)
      by false z (Some a) eq got =
          let b = bound (parse os a) (λ x. Some (Some x.0, left - 1, x.1)) (o, rest, q) got in
          let e : ◌≡◌ {A = Option V × ℕ × ℕ} (Some b.got.0, left - 1, b.got.1) (o, rest, q) = same_Some _ _ b.rest in
          let h = key-sound os octet k p a eq in
          let x = ways.sound os octet a b.got.0 b.got.1 b.first in
          let some : 1 ≤ left = grind (arith, nat_tests, z) in
          subst (λ y. Took os p left y.1 y.2) e (record { value = Some x.0; counted = omega arith; good = x.1; runs = runs_join os octet h (runs_join os octet x.2 (runs-nothing (runs_in x.2))) })

  -- an entry that is encoded is read, and what comes behind it stands there
  pub record Opt (os : List ℕ) (p : ℕ) (x : Option X) (rest : Entries) (q left : ℕ) : Type 0 where
    pub value : Option V
    pub behind : ℕ
    pub is : optional left k parse os p ≡ Some (value, map_size rest, behind)
    pub sees : Both (Sees os) value x
    pub on : Runs os behind (entries_encoding rest) q

  pub optional-back : (os : List ℕ) (p : ℕ) (x : Option X) (rest : Entries) (q : ℕ) → Given Good x → (Runs os p (entries_encoding rest) q → next_key (map_size rest) k os p ≡ None) → Runs os p (entries_encoding (optionally k item x rest)) q → Opt os p x rest q (map_size (optionally k item x rest))
  unfolding encoding
  optional-back os p None rest q good other r = record { value = None; behind = p; is = ap (chosen (map_size rest) parse os p) (other r); sees = tt; on = r }
  optional-back os p (Some x) rest q good other r =
      let a = cut (head_of 0 k) (encoding (item x) ++ entries_encoding rest) r in
      let b = cut (encoding (item x)) (entries_encoding rest) a.then in
      let e = next-is k os p (map_size rest) _ (key_back os k p _ small a.here) in
      let v = ways.back os (p + length (head_of 0 k)) x (p + length (head_of 0 k) + length (encoding (item x))) good b.here in
      let less : suc (map_size rest) - 1 ≡ map_size rest = omega arith in
      record {
        value = Some v.0;
        behind = p + length (head_of 0 k) + length (encoding (item x));
        is = ap (chosen (suc (map_size rest)) parse os p) e ∙ ap (λ y. bind y (λ z. Some (Some z.0, suc (map_size rest) - 1, z.1))) v.1 ∙ ap (λ n. Some (Some v.0, n, p + length (head_of 0 k) + length (encoding (item x)))) less;
        sees = v.2;
        on = b.then;
      }

-- where no entry is left there is no key
pub no_key : (k : ℕ) (os : List ℕ) (p : ℕ) → next_key 0 k os p ≡ None
unfolding next_key
no_key k os p = refl

pub same_option : {X : Type 0} (v x : Option X) → Both (λ a b. a ≡ b) v x → v ≡ x
same_option None None s = refl
same_option (Some v) (Some x) s = ap Some s
same_option None (Some x) s = absurd s
same_option (Some v) None s = absurd s
