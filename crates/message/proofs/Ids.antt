-- Identifiers that were read have 16 octets, and what the questions on octets come to.
use Rattle.std.proofs.Common.{◌≡◌, ℕ, true, ◌&&◌, eqb, List, length, cond, Some, None, Ok, sym, ap, ◌∙◌, subst, arith}
use Rattle.std.proofs.lemmas.Bool.Decides.{nat_tests}
use Rattle.std.proofs.lemmas.Option.{cond_some, same_Some}
use Rattle.items.specs.declared.types.Reading.{Reading}
use Rattle.items.specs.declared.types.Span.{Span}
use Rattle.items.specs.Reading.{read_of}
use Rattle.items.specs.Heads.{part}
use Rattle.items.specs.Fields.{argument_at, key_at, string_at, map_at}
use Rattle.message.specs.declared.types.Mid.{Mid}
use Rattle.message.specs.declared.types.Cmd.{Cmd}
use Rattle.message.specs.declared.types.Auth.{Auth}
use Rattle.message.specs.declared.types.View.{View}
use Rattle.message.specs.Messages.{message_of}
use Rattle.message.specs.Entries.{map_of, id_at, alg_at, context_at, optional}
use Rattle.message.specs.Parts.{mid_at, cmd_at, auth_at, meta_at, body_at, view_of}
use Rattle.message.proofs.Bounds.{bound, ended_is, string_lies, part-long}

pub id_on : (os : List ℕ) (p : ℕ) (x : List ℕ) (q : ℕ) → id_at os p ≡ Some (x, q) → length x ≡ 16
unfolding id_at
id_on os p x q is =
    let b = bound (string_at 2 os p) (λ x. cond (eqb x.0.len 16) (Some (part os x.0.start 16, x.1)) None) (x, q) is in
    let s : Span = b.got.0 in
    let c = cond_some (eqb s.len 16) (part os s.start 16, b.got.1) (x, q) b.rest in
    let sixteen : s.len ≡ 16 = grind (arith, nat_tests, c.0) in
    let l = string_lies 2 os p s b.got.1 b.first in
    ap length (sym (ap (λ y. y.0) c.1)) ∙ part-long os s.start 16 (omega (arith, l.on, l.within))

pub mid-placed : (os : List ℕ) (p : ℕ) (x : Mid) (q : ℕ) → mid_at os p ≡ Some (x, q) → length x.sid ≡ 16
unfolding mid_at
mid-placed os p x q is =
    let a = bound (map_of 3 os p) _ _ is in
    let b = bound (key_at 0 os a.got.1) _ _ a.rest in
    let c = bound (argument_at 0 os b.got) _ _ b.rest in
    let d = bound (key_at 1 os c.got.1) _ _ c.rest in
    let e = bound (argument_at 0 os d.got) _ _ d.rest in
    let f = bound (key_at 2 os e.got.1) _ _ e.rest in
    let g = bound (id_at os f.got) _ _ f.rest in
    let h = bound (optional a.got.0 3 (argument_at 0) os g.got.1) _ _ g.rest in
    let got : ◌≡◌ {A = Mid × ℕ} (record { epoch = c.got.0; counter = e.got.0; sid = g.got.0; exp = h.got.0 }, h.got.2) (x, q) = (ended_is h.got.1 _ _ h.rest).1 in
    ap (λ y. length y.0.sid) (sym got) ∙ id_on os f.got g.got.0 g.got.1 g.first

auth-placed : (os : List ℕ) (p : ℕ) (x : Auth) (q : ℕ) → auth_at os p ≡ Some (x, q) → length x.kid ≡ 16
unfolding auth_at
auth-placed os p x q is =
    let a = bound (map_of 3 os p) _ _ is in
    let b = bound (key_at 0 os a.got.1) _ _ a.rest in
    let c = bound (alg_at os b.got) _ _ b.rest in
    let d = bound (key_at 1 os c.got.1) _ _ c.rest in
    let e = bound (id_at os d.got) _ _ d.rest in
    let f = bound (key_at 2 os e.got.1) _ _ e.rest in
    let g = bound (string_at 2 os f.got) _ _ f.rest in
    let h = bound (optional a.got.0 3 context_at os g.got.1) _ _ g.rest in
    let got : ◌≡◌ {A = Auth × ℕ} (record { place = p; alg = c.got.0; kid = e.got.0; entry = e.got.1; signature = g.got.0; ctx = h.got.0 }, h.got.2) (x, q) = (ended_is h.got.1 _ _ h.rest).1 in
    ap (λ y. length y.0.kid) (sym got) ∙ id_on os d.got e.got.0 e.got.1 e.first

record BodyIds (x : ℕ × Mid × Cmd × Auth) : Type 0 where
  sid : length x.1.sid ≡ 16
  kid : length x.3.kid ≡ 16

body-ids : (os : List ℕ) (p : ℕ) (x : ℕ × Mid × Cmd × Auth) (q : ℕ) → body_at os p ≡ Some (x, q) → BodyIds x
unfolding body_at
body-ids os p x q is =
    let a = bound (key_at 0 os p) _ _ is in
    let b = bound (key_at 1 os a.got) _ _ a.rest in
    let c = bound (key_at 1 os b.got) _ _ b.rest in
    let d = bound (argument_at 0 os c.got) _ _ c.rest in
    let e = bound (key_at 2 os d.got.1) _ _ d.rest in
    let f = bound (mid_at os e.got) _ _ e.rest in
    let g = bound (key_at 3 os f.got.1) _ _ f.rest in
    let h = bound (cmd_at os g.got) _ _ g.rest in
    let i = bound (key_at 4 os h.got.1) _ _ h.rest in
    let j = bound (auth_at os i.got) _ _ i.rest in
    let got : ◌≡◌ {A = (ℕ × Mid × Cmd × Auth) × ℕ} ((d.got.0, f.got.0, h.got.0, j.got.0), j.got.1) (x, q) = same_Some ((d.got.0, f.got.0, h.got.0, j.got.0), j.got.1) (x, q) j.rest in
    subst (λ y. BodyIds y.0) got (record {
      sid = mid-placed os e.got f.got.0 f.got.1 f.first;
      kid = auth-placed os i.got j.got.0 j.got.1 j.first;
    })

-- the identifiers of a message have 16 octets
pub record Ids (v : View) : Type 0 where
  pub sid : length v.mid.sid ≡ 16
  pub kid : length v.auth.kid ≡ 16

pub view-ids : (os : List ℕ) (v : View) → view_of os ≡ Some v → Ids v
unfolding view_of
view-ids os v is =
    let a = bound (map_of 5 os 0) _ _ is in
    let b = bound (body_at os a.got.1) _ _ a.rest in
    let c = bound (optional a.got.0 5 meta_at os b.got.1) _ _ b.rest in
    let d = bound (optional c.got.1 6 map_at os c.got.2) _ _ c.rest in
    let got : ◌≡◌ {A = View} (record { profile = b.got.0.0; mid = b.got.0.1; cmd = b.got.0.2; auth = b.got.0.3; meta = c.got.0; ext = d.got.0 }) v = (cond_some (eqb d.got.1 0 && eqb d.got.2 (length os)) _ _ d.rest).1 in
    let rb = body-ids os a.got.1 b.got.0 b.got.1 b.first in
    subst Ids got (record { sid = rb.sid; kid = rb.kid })

-- octets that pass the questions show what was read
pub message_ok : (os : List ℕ) (r : Reading) (v : View) → Ok r ≡ read_of os → r.deterministic ≡ true → Some v ≡ view_of os → message_of os ≡ Ok v
unfolding message_of
message_ok os r v is good shown = rw (sym is, good, sym shown)
