-- Octets pass exactly when they encode fields that a message may have.
use Rattle.std.proofs.Common.{◌≡◌, ℕ, Bool, true, false, cond, List, [], Some, None, Ok, Err, Option, Result, sym, refl, ap, ◌∙◌, subst, MatchResult}
use Rattle.std.proofs.lemmas.Option.{same_Some}
use Rattle.answers.specs.declared.refusal.Refusal.{Refusal}
use Rattle.answers.specs.declared.refusal.Refusal.TheVariants as refusal
use Rattle.items.specs.declared.types.Fault.{Fault}
use Rattle.items.specs.declared.types.Fault.TheVariants.{Malformed, Indefinite}
use Rattle.items.specs.declared.types.Reading.{Reading}
use Rattle.items.specs.Reading.{read_of, containers}
use Rattle.items.specs.Trees.{Item, unsigned, negative, bytes, text, array, map, simple_false, simple_true, simple_null, Entries, no_entries, encoding, Canonical, value_of}
use Rattle.items_laws.specs.Laws.{Octets, Passes}
use Rattle.items_laws.proofs.Passing.{read-sound, read_back}
use Rattle.items_laws.proofs.Unique.{one-tree}
use Rattle.message.specs.declared.message.Message.{Message}
use Rattle.message.specs.declared.types.View.{View}
use Rattle.message.specs.Fields.{Fields, optionally, meta_tree, tree, Valid}
use Rattle.message.specs.Messages.{readable, definite, deterministic, or_schema, message_of}
use Rattle.message.specs.Parts.{view_of}
use Rattle.message.proofs.Ids.{message_ok}
use Rattle.message_laws.specs.Shows.{Shows}
use Rattle.message_laws.specs.Laws.{Encodes, EncodesNone}
use Rattle.message_laws.proofs.Views.{Laid, view-sound, view-back}
use Rattle.message_laws.proofs.Valids.{valid-good, good-valid, tree-within}

-- what a message that was read has passed
pub record Passed (os : List ℕ) (v : View) : Type 0 where
  pub reads : Passes (read_of os)
  pub shown : view_of os ≡ Some v

pub passed : (os : List ℕ) (v : View) → message_of os ≡ Ok v → Passed os v
unfolding message_of
passed os v is = by (read_of os) refl (view_of os) refl is
  where
    schema : (o : Option View) → or_schema o ≡ Ok v → o ≡ Some v
    schema None got = cc
    schema (Some w) got = cc

    decide : (b : Bool) (r : Result View Refusal) → cond b r (Err refusal.NotDeterministic) ≡ Ok v → (b ≡ true) × (r ≡ Ok v)
    decide true r got = (refl, got)
    decide false r got = cc

    by : (r : Result Reading Fault) → read_of os ≡ r → (o : Option View) → view_of os ≡ o
        → cond (readable r) (cond (definite r) (cond (deterministic r) (or_schema o) (Err refusal.NotDeterministic)) (Err refusal.Indefinite)) (Err refusal.CborParse) ≡ Ok v → Passed os v
    by (Err Malformed) eq o eqo got = cc
    by (Err Indefinite) eq o eqo got = cc
    by (Ok r) eq o eqo got =
        let d = decide r.deterministic (or_schema o) got in
        record { reads = eq ∙ (λ i. Ok (record { deterministic = d.0 i })); shown = eqo ∙ schema o d.1 }

-- fields are found again in their tree
abbrev argument : Item → ℕ
argument (unsigned n) = n
argument (negative n) = 0
argument (bytes bs) = 0
argument (text bs) = 0
argument (array ts) = 0
argument (map es) = 0
argument simple_false = 0
argument simple_true = 0
argument simple_null = 0

abbrev content : Item → List ℕ
content (unsigned n) = []
content (negative n) = []
content (bytes bs) = bs
content (text bs) = []
content (array ts) = []
content (map es) = []
content simple_false = []
content simple_true = []
content simple_null = []

abbrev entries_in : Item → Entries
entries_in (unsigned n) = no_entries
entries_in (negative n) = no_entries
entries_in (bytes bs) = no_entries
entries_in (text bs) = no_entries
entries_in (array ts) = no_entries
entries_in (map es) = es
entries_in simple_false = no_entries
entries_in simple_true = no_entries
entries_in simple_null = no_entries

abbrev or_zero : Option Item → Item
or_zero None = unsigned 0
or_zero (Some t) = t

abbrev found : Entries → ℕ → Item
found es n = or_zero (value_of es n)

abbrev given : {X : Type 0} → (Item → X) → Option Item → Option X
given g None = None
given g (Some t) = Some (g t)

abbrev fields_from : Item → Fields
fields_from t = record {
  profile = argument (found (entries_in t) 1);
  epoch = argument (found (entries_in (found (entries_in t) 2)) 0);
  counter = argument (found (entries_in (found (entries_in t) 2)) 1);
  sid = content (found (entries_in (found (entries_in t) 2)) 2);
  exp = given argument (value_of (entries_in (found (entries_in t) 2)) 3);
  kind = argument (found (entries_in (found (entries_in t) 3)) 0);
  args = entries_in (found (entries_in (found (entries_in t) 3)) 1);
  duo = given content (value_of (entries_in (found (entries_in t) 3)) 2);
  alg = argument (found (entries_in (found (entries_in t) 4)) 0);
  kid = content (found (entries_in (found (entries_in t) 4)) 1);
  signature = content (found (entries_in (found (entries_in t) 4)) 2);
  ctx = given content (value_of (entries_in (found (entries_in t) 4)) 3);
  meta = given (λ m. given content (value_of (entries_in m) 0)) (value_of (entries_in t) 5);
  ext = given entries_in (value_of (entries_in t) 6);
}

same_numbers : (k : ℕ) (o : Option ℕ) → given argument (value_of (optionally 3 unsigned o no_entries) 3) ≡ o
same_numbers k None = refl
same_numbers k (Some n) = refl

same-duo : (o : Option (List ℕ)) → given content (value_of (optionally 2 bytes o no_entries) 2) ≡ o
same-duo None = refl
same-duo (Some bs) = refl

same-ctx : (o : Option (List ℕ)) → given content (value_of (optionally 3 bytes o no_entries) 3) ≡ o
same-ctx None = refl
same-ctx (Some bs) = refl

same-echo : (o : Option (List ℕ)) → given content (value_of (optionally 0 bytes o no_entries) 0) ≡ o
same-echo None = refl
same-echo (Some bs) = refl

same-meta : (m : Option (Option (List ℕ))) (e : Option Entries) → given (λ t. given content (value_of (entries_in t) 0)) (value_of (optionally 5 meta_tree m (optionally 6 map e no_entries)) 5) ≡ m
same-meta None None = refl
same-meta None (Some es) = refl
same-meta (Some echo) e = ap Some (same-echo echo)

same-ext : (m : Option (Option (List ℕ))) (e : Option Entries) → given entries_in (value_of (optionally 5 meta_tree m (optionally 6 map e no_entries)) 6) ≡ e
same-ext None None = refl
same-ext None (Some es) = refl
same-ext (Some echo) None = refl
same-ext (Some echo) (Some es) = refl

from-tree : (f : Fields) → fields_from (tree f) ≡ f
from-tree f = λ i. record {
  profile = f.profile;
  epoch = f.epoch;
  counter = f.counter;
  sid = f.sid;
  exp = same_numbers 3 f.exp i;
  kind = f.kind;
  args = f.args;
  duo = same-duo f.duo i;
  alg = f.alg;
  kid = f.kid;
  signature = f.signature;
  ctx = same-ctx f.ctx i;
  meta = same-meta f.meta f.ext i;
  ext = same-ext f.meta f.ext i;
}

one-fields : (f g : Fields) → tree f ≡ tree g → f ≡ g
one-fields f g e = sym (from-tree f) ∙ ap fields_from e ∙ from-tree g

-- what was read encodes
pub message-sound : (os : List ℕ) → Octets os → (v : View) → message_of os ≡ Ok v → Encodes os v
message-sound os octet v is =
    let p = passed os v is in
    let s = view-sound os octet v p.shown in
    let f : Fields = s.0 in
    let t = read-sound os octet p.reads in
    let same : tree f ≡ t.tree = one-tree os (tree f) t.tree 40 containers (tree-within f s.1) t.canonical.within s.2 t.is in
    let b = view-back os f s.1 s.2 in
    let v' : b.view ≡ v = same_Some _ _ (sym b.is ∙ p.shown) in
    record {
      fields = f;
      valid = good-valid f s.1 (subst Canonical (sym same) t.canonical);
      is = s.2;
      only = λ g ok e. one-fields g f (t.only (tree g) ok.canonical e ∙ sym same);
      shows = subst (λ w. Shows os w f) v' b.shows;
    }

-- what encodes is read
pub record Back (os : List ℕ) (f : Fields) : Type 0 where
  pub view : View
  pub is : message_of os ≡ Ok view
  pub shows : Shows os view f
  pub laid : Laid view.auth f

pub message-back : (os : List ℕ) (f : Fields) → Valid f → encoding (tree f) ≡ os → Back os f
message-back os f ok e =
    let b = view-back os f (valid-good f ok) e in
    let r = read_back os (tree f) ok.canonical e in
    record { view = b.view; is = message_ok os (record { deterministic = true }) b.view (sym r) refl (sym b.is); shows = b.shows; laid = b.laid }

pub message-none : (os : List ℕ) (e : Refusal) → message_of os ≡ Err e → EncodesNone os
message-none os e is f ok same = let clash = sym (message-back os f ok same).is ∙ is in cc

-- what is shown of the fields that os encode
pub record Of (os : List ℕ) (v : View) (f : Fields) : Type 0 where
  pub shows : Shows os v f
  pub laid : Laid v.auth f

pub of_fields : (os : List ℕ) (v : View) (f : Fields) → Valid f → encoding (tree f) ≡ os → message_of os ≡ Ok v → Of os v f
of_fields os v f ok e is =
    let b = message-back os f ok e in
    let came = sym b.is ∙ is in
    let same : b.view ≡ v = cc in
    subst (λ w. Of os w f) same (record { shows = b.shows; laid = b.laid })

-- by the result of the reading
pub exactly : (os : List ℕ) → Octets os → (r : Result Message Refusal) → MatchResult r (λ m. message_of os ≡ Ok m.view) (λ e. message_of os ≡ Err e) → MatchResult r (λ m. Encodes os m.view) (λ _. EncodesNone os)
exactly os octet (Ok m) is = message-sound os octet m.view is
exactly os octet (Err e) is = message-none os e is
