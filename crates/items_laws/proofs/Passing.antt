-- A reading passes exactly when the octets are the encoding of one tree.
use Rattle.std.proofs.Common.{◌≡◌, ℕ, ◌+◌, ◌-◌, Bool, true, false, cond, eqb, List, length, Ok, Err, Result, sym, refl, ap, ◌∙◌, arith}
use Rattle.std.proofs.lemmas.Bool.Decides.{nat_tests}
use Rattle.items.specs.declared.types.Fault.{Fault}
use Rattle.items.specs.declared.types.Fault.TheVariants.{Malformed}
use Rattle.items.specs.declared.types.Reading.{Reading}
use Rattle.items.specs.Heads.{after}
use Rattle.items.specs.Reading.{Walk, item_of, containers, message_items, start_at, ended, read_of}
use Rattle.items.specs.Trees.{Item, encoding, total, Canonical}
use Rattle.items.proofs.Steps.{read-ends}
use Rattle.items_laws.specs.Laws.{Octets, Passes, EncodesOne, PassesExactly}
use Rattle.items_laws.proofs.Backs.{walk, item_back}
use Rattle.items_laws.proofs.Accepted.{never, ok_same, item_sound}
use Rattle.items_laws.proofs.Unique.{same-part, whole-at, one-tree}

-- where a reading that passes came to
pub record Ended (os : List ℕ) (d : Bool) : Type 0 where
  pub walk-on : Walk
  pub read : item_of containers os (start_at 0) ≡ Ok walk-on
  pub at-end : walk-on.place ≡ length os
  pub same : walk-on.deterministic ≡ d

ended_is : (os : List ℕ) (w : Walk) (d : Bool) → ended os w ≡ Ok (record { deterministic = d }) → (w.place ≡ length os) × (w.deterministic ≡ d)
ended_is os w d is = by (eqb w.place (length os)) refl is
  where
    by : (b : Bool) → eqb w.place (length os) ≡ b → cond {A = Result Reading Fault} b (Ok (record { deterministic = w.deterministic })) (Err Malformed) ≡ Ok (record { deterministic = d }) → (w.place ≡ length os) × (w.deterministic ≡ d)
    by true e got = (grind (arith, nat_tests, e), ap (λ r. r.deterministic) (ok_same got))
    by false e got = absurd (never {e = Malformed} refl got)

pub read-ended : (os : List ℕ) (d : Bool) → read_of os ≡ Ok (record { deterministic = d }) → Ended os d
unfolding read_of
read-ended os d is = by (item_of containers os (start_at 0)) refl is
  where
    by : (r : Result Walk Fault) → item_of containers os (start_at 0) ≡ r → after r (ended os) ≡ Ok (record { deterministic = d }) → Ended os d
    by (Err e) eq got = absurd (never {e = e} refl got)
    by (Ok w) eq got = let g = ended_is os w d got in record { walk-on = w; read = eq; at-end = g.0; same = g.1 }

pub read-sound : (os : List ℕ) → Octets os → Passes (read_of os) → EncodesOne os
read-sound os octet is =
    let e = read-ended os true is in
    let t = item_sound os octet containers (start_at 0) e.walk-on e.read e.same in
    let whole : encoding t.tree ≡ os = same-part os 0 0 (encoding t.tree) os t.at (whole-at os os refl) refl (omega (arith, t.on, e.at-end)) in
    record {
      tree = t.tree;
      canonical = record { within = t.within; few = omega (arith, t.left_by); ascends = t.ascends };
      is = whole;
      only = λ u good same. one-tree os u t.tree containers containers good.within t.within same whole;
    }

pub read_back : (os : List ℕ) (t : Item) → Canonical t → encoding t ≡ os → Passes (read_of os)
read_back os t good is =
    let came = item_back t os 0 containers message_items true good.within good.few good.ascends (whole-at os (encoding t) is) in
    sym (read-ends os (walk (0 + length (encoding t)) (message_items - total t) true) came (omega (arith, ap length is)))

pub passes-exactly : (os : List ℕ) → Octets os → (r : Result Reading Fault) → r ≡ read_of os → PassesExactly os r
passes-exactly os octet r is = record {
  sound = λ pass. read-sound os octet (sym is ∙ pass);
  back = λ t good same. is ∙ read_back os t good same;
}
