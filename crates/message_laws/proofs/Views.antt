-- A message is read exactly where fields are encoded.
use Rattle.std.proofs.Common.{◌≡◌, ℕ, suc, ◌+◌, ◌^◌, ◌<◌, ◌≤◌, true, ◌&&◌, eqb, List, ◌++◌, length, Some, None, Option, sym, refl, ap, ◌∙◌, subst, arith, length-append}
use Rattle.std.proofs.lemmas.Bool.{and_parts}
use Rattle.std.proofs.lemmas.Bool.Decides.{nat_tests}
use Rattle.std.proofs.lemmas.Option.{cond_some, same_Some}
use Rattle.items.specs.declared.types.Span.{Span}
use Rattle.items.specs.Fields.{argument_at, key_at, map_at}
use Rattle.items.specs.Trees.{unsigned, bytes, map, Entries, no_entries, head_of, map_size, encoding, entries_encoding, Canonical, Runs}
use Rattle.items.proofs.Picks.{key-other}
use Rattle.items_laws.specs.Laws.{Octets}
use Rattle.items_laws.proofs.Unique.{same-part, whole-at}
use Rattle.items_laws.proofs.Runnings.{bound, cut, runs_in, argument-back, argument-sound, key-sound, runs_join, map-exact, key-exact, unsigned-exact}
use Rattle.message.specs.declared.types.Mid.{Mid}
use Rattle.message.specs.declared.types.Cmd.{Cmd}
use Rattle.message.specs.declared.types.Auth.{Auth}
use Rattle.message.specs.declared.types.Meta.{Meta}
use Rattle.message.specs.declared.types.View.{View}
use Rattle.message.specs.Entries.{map_of, next_key, optional}
use Rattle.message.specs.Parts.{mid_at, cmd_at, auth_at, meta_at, body_at, view_of}
use Rattle.message.specs.Fields.{Fields, optionally, meta_tree, tree}
use Rattle.message_laws.proofs.Ways.{parses, map-sound, map_back, Given, optional-sound, optional-back, optionally-on, optionally-size, optionally-few, no_key}
use Rattle.message_laws.proofs.Mids.{MidFields, mid_item, MidGood, MidSees, mid-parses}
use Rattle.message_laws.proofs.Cmds.{CmdFields, cmd_item, CmdGood, CmdSees, cmd-parses, EchoGood, meta-parses}
use Rattle.message_laws.proofs.Auths.{AuthFields, auth_item, AuthGood, AuthSees, auth-sound, auth-back, bare, front, signed}
use Rattle.message_laws.specs.Shows.{MapSpot, MetaShows, Shows}

-- the fields of each part
abbrev pub mid_of : Fields → MidFields
mid_of f = record { epoch = f.epoch; counter = f.counter; sid = f.sid; exp = f.exp }

abbrev pub cmd_of : Fields → CmdFields
cmd_of f = record { kind = f.kind; args = f.args; duo = f.duo }

abbrev pub auth_of : Fields → AuthFields
auth_of f = record { alg = f.alg; kid = f.kid; signature = f.signature; ctx = f.ctx }

-- a map that a message may hold
abbrev pub MapGood : Entries → Type 0
MapGood es = Canonical (map es)

-- each part is good
pub record FieldsGood (f : Fields) : Type 0 where
  pub profile : f.profile < 2 ^ 64
  pub mid : MidGood (mid_of f)
  pub cmd : CmdGood (cmd_of f)
  pub auth : AuthGood (auth_of f)
  pub meta : Given EchoGood f.meta
  pub ext : Given MapGood f.ext

-- what every message has, before ys
abbrev pub body_before : ℕ → MidFields → CmdFields → AuthFields → List ℕ → List ℕ
body_before profile mid cmd auth ys =
    encoding (unsigned 0) ++ (encoding (unsigned 1) ++ (encoding (unsigned 1) ++ (encoding (unsigned profile) ++ (encoding (unsigned 2) ++ (encoding (mid_item mid)
    ++ (encoding (unsigned 3) ++ (encoding (cmd_item cmd) ++ (encoding (unsigned 4) ++ (encoding (auth_item auth) ++ ys)))))))))

record Body (os : List ℕ) (p q : ℕ) : Type 0 where
  profile : ℕ
  mid : MidFields
  cmd : CmdFields
  auth : AuthFields
  fits : profile < 2 ^ 64
  mid-good : MidGood mid
  cmd-good : CmdGood cmd
  auth-good : AuthGood auth
  inside : q ≤ length os
  runs : (ys : List ℕ) (r : ℕ) → Runs os q ys r → Runs os p (body_before profile mid cmd auth ys) r

body-sound : (os : List ℕ) → Octets os → (p : ℕ) (x : ℕ × Mid × Cmd × Auth) (q : ℕ) → body_at os p ≡ Some (x, q) → Body os p q
unfolding body_at encoding
body-sound os octet p x q is =
    let a = bound (key_at 0 os p) _ _ is in
    let b = bound (key_at 1 os a.got) _ _ a.rest in
    let c = bound (key_at 1 os b.got) _ _ b.rest in
    let d = bound (argument_at 0 os c.got) _ _ c.rest in
    let e = bound (key_at 2 os d.got.1) _ _ d.rest in
    let f = bound (mid_at os e.got) _ _ e.rest in
    let g = bound (key_at 3 os f.got.1) _ _ f.rest in
    let h = bound (cmd_at os g.got) _ _ g.rest in
    let i = bound (key_at 4 os h.got.1) _ _ h.rest in
    let j = bound (auth_at os i.got) _ _ i.rest in
    let on : j.got.1 ≡ q = ap (λ y. y.1) (same_Some _ _ j.rest) in
    let ra = key-sound os octet 0 p a.got a.first in
    let rb = key-sound os octet 1 a.got b.got b.first in
    let rc = key-sound os octet 1 b.got c.got c.first in
    let rd = argument-sound os octet 0 c.got d.got.0 d.got.1 d.first in
    let re = key-sound os octet 2 d.got.1 e.got e.first in
    let rf = mid-parses.sound os octet e.got f.got.0 f.got.1 f.first in
    let rg = key-sound os octet 3 f.got.1 g.got g.first in
    let rh = cmd-parses.sound os octet g.got h.got.0 h.got.1 h.first in
    let ri = key-sound os octet 4 h.got.1 i.got i.first in
    let rj = auth-sound os octet i.got j.got.0 j.got.1 j.first in
    let last = subst (Runs os i.got (encoding (auth_item rj.0))) on rj.2 in
    record {
      profile = d.got.0;
      mid = rf.0;
      cmd = rh.0;
      auth = rj.0;
      fits = rd.1;
      mid-good = rf.1;
      cmd-good = rh.1;
      auth-good = rj.1;
      inside = runs_in last;
      runs = λ ys r t. runs_join os octet ra (runs_join os octet rb (runs_join os octet rc (runs_join os octet rd.0 (runs_join os octet re (runs_join os octet rf.2 (runs_join os octet rg (runs_join os octet rh.2 (runs_join os octet ri (runs_join os octet last t)))))))));
    }

-- what is shown was encoded
pub view-sound : (os : List ℕ) → Octets os → (v : View) → view_of os ≡ Some v → (f : Fields) × FieldsGood f × (encoding (tree f) ≡ os)
unfolding view_of encoding
view-sound os octet v is =
    let a = bound (map_of 5 os 0) _ _ is in
    let b = bound (body_at os a.got.1) _ _ a.rest in
    let c = bound (optional a.got.0 5 meta_at os b.got.1) _ _ b.rest in
    let d = bound (optional c.got.1 6 map_at os c.got.2) _ _ c.rest in
    let e = cond_some (eqb d.got.1 0 && eqb d.got.2 (length os)) _ _ d.rest in
    let t = and_parts (eqb d.got.1 0) (eqb d.got.2 (length os)) e.0 in
    let none : d.got.1 ≡ 0 = grind (arith, nat_tests, t.0) in
    let end : d.got.2 ≡ length os = grind (arith, nat_tests, t.1) in
    let ra = map-sound os octet 5 0 a.got.0 a.got.1 a.first in
    let rb = body-sound os octet a.got.1 b.got.0 b.got.1 b.first in
    let rc = optional-sound meta_at meta_tree EchoGood MetaShows meta-parses 5 (omega arith) os octet a.got.0 b.got.1 c.got.0 c.got.1 c.got.2 rb.inside c.first in
    let rd = optional-sound map_at map MapGood MapSpot (parses map-exact) 6 (omega arith) os octet c.got.1 c.got.2 d.got.0 d.got.1 d.got.2 (runs_in rc.runs) d.first in
    let f : Fields = record {
      profile = rb.profile;
      epoch = rb.mid.epoch;
      counter = rb.mid.counter;
      sid = rb.mid.sid;
      exp = rb.mid.exp;
      kind = rb.cmd.kind;
      args = rb.cmd.args;
      duo = rb.cmd.duo;
      alg = rb.auth.alg;
      kid = rb.auth.kid;
      signature = rb.auth.signature;
      ctx = rb.auth.ctx;
      meta = rc.value;
      ext = rd.value;
    } in
    let es : Entries = optionally 6 map rd.value no_entries in
    let many : 5 + a.got.0 ≡ suc (suc (suc (suc (suc (map_size (optionally 5 meta_tree rc.value es)))))) = counted a.got.0 c.got.1 d.got.1 _ _ _ rc.counted rd.counted none (optionally-size 5 meta_tree rc.value es) in
    let head = subst (λ n. Runs os 0 (head_of 5 n) a.got.1) many ra in
    let last = subst (λ xs. Runs os b.got.1 xs d.got.2) (sym (optionally-on 5 meta_tree rc.value es)) (runs_join os octet rc.runs rd.runs) in
    let all = runs_join os octet head (rb.runs _ _ last) in (
      f,
      record { profile = rb.fits; mid = rb.mid-good; cmd = rb.cmd-good; auth = rb.auth-good; meta = rc.good; ext = rd.good },
      same-part os 0 0 (encoding (tree f)) os all.at (whole-at os os refl) refl (whole _ _ _ all.on end),
    )
  where
    counted : (left rest last m n k : ℕ) → left ≡ m + rest → rest ≡ n + last → last ≡ 0 → k ≡ m + n → 5 + left ≡ suc (suc (suc (suc (suc k))))
    counted left rest last m n k a b c d = omega arith

    whole : (q n l : ℕ) → q ≡ 0 + n → q ≡ l → n ≡ l
    whole q n l a b = omega arith

-- fields that are encoded are shown
record BodyBack (os : List ℕ) (p profile : ℕ) (mid : MidFields) (cmd : CmdFields) (auth : AuthFields) (ys : List ℕ) (r : ℕ) : Type 0 where
  mid-view : Mid
  cmd-view : Cmd
  auth-view : Auth
  behind : ℕ
  is : body_at os p ≡ Some ((profile, mid-view, cmd-view, auth-view), behind)
  mid-sees : MidSees os mid-view mid
  cmd-sees : CmdSees os cmd-view cmd
  auth-sees : AuthSees os (p + length (encoding (unsigned 0)) + length (encoding (unsigned 1)) + length (encoding (unsigned 1)) + length (encoding (unsigned profile)) + length (encoding (unsigned 2)) + length (encoding (mid_item mid))
      + length (encoding (unsigned 3)) + length (encoding (cmd_item cmd)) + length (encoding (unsigned 4))) auth-view auth
  on : Runs os behind ys r

body-all : (os : List ℕ) (p p₀ version p₁ : ℕ) (profile : ℕ × ℕ) (p₂ : ℕ) (mid : Mid × ℕ) (p₃ : ℕ) (cmd : Cmd × ℕ) (p₄ : ℕ) (auth : Auth × ℕ)
    → key_at 0 os p ≡ Some p₀ → key_at 1 os p₀ ≡ Some version → key_at 1 os version ≡ Some p₁ → argument_at 0 os p₁ ≡ Some profile → key_at 2 os profile.1 ≡ Some p₂ → mid_at os p₂ ≡ Some mid
    → key_at 3 os mid.1 ≡ Some p₃ → cmd_at os p₃ ≡ Some cmd → key_at 4 os cmd.1 ≡ Some p₄ → auth_at os p₄ ≡ Some auth
    → body_at os p ≡ Some ((profile.0, mid.0, cmd.0, auth.0), auth.1)
unfolding body_at
body-all os p p₀ version p₁ profile p₂ mid p₃ cmd p₄ auth e₀ e₁ e₂ e₃ e₄ e₅ e₆ e₇ e₈ e₉ = rw (e₀, e₁, e₂, e₃, e₄, e₅, e₆, e₇, e₈, e₉)

body_back : (os : List ℕ) (p profile : ℕ) (mid : MidFields) (cmd : CmdFields) (auth : AuthFields) (ys : List ℕ) (r : ℕ) → profile < 2 ^ 64 → MidGood mid → CmdGood cmd → AuthGood auth
    → Runs os p (body_before profile mid cmd auth ys) r → BodyBack os p profile mid cmd auth ys r
body_back os p profile mid cmd auth ys r fits mg cg ag run =
    let a = cut (encoding (unsigned 0)) _ run in
    let b = cut (encoding (unsigned 1)) _ a.then in
    let c = cut (encoding (unsigned 1)) _ b.then in
    let d = cut (encoding (unsigned profile)) _ c.then in
    let e = cut (encoding (unsigned 2)) _ d.then in
    let f = cut (encoding (mid_item mid)) _ e.then in
    let g = cut (encoding (unsigned 3)) _ f.then in
    let h = cut (encoding (cmd_item cmd)) _ g.then in
    let i = cut (encoding (unsigned 4)) _ h.then in
    let j = cut (encoding (auth_item auth)) ys i.then in
    let e₀ = key os 0 _ _ (omega arith) a.here in
    let e₁ = key os 1 _ _ (omega arith) b.here in
    let e₂ = key os 1 _ _ (omega arith) c.here in
    let e₃ = number os _ profile _ fits d.here in
    let e₄ = key os 2 _ _ (omega arith) e.here in
    let m = mid-parses.back os _ mid _ mg f.here in
    let e₆ = key os 3 _ _ (omega arith) g.here in
    let n = cmd-parses.back os _ cmd _ cg h.here in
    let e₈ = key os 4 _ _ (omega arith) i.here in
    let o = auth-back os _ auth _ ag j.here in
    record {
      mid-view = m.0;
      cmd-view = n.0;
      auth-view = o.0;
      behind = _;
      is = body-all os p _ _ _ _ _ _ _ _ _ _ e₀ e₁ e₂ e₃ e₄ m.1 e₆ n.1 e₈ o.1;
      mid-sees = m.2;
      cmd-sees = n.2;
      auth-sees = o.2;
      on = j.then;
    }
  where
    key : (os : List ℕ) (n p q : ℕ) → n < 2 ^ 64 → Runs os p (encoding (unsigned n)) q → key_at n os p ≡ Some q
    key os n p q fits run = key-exact.back os n p q fits run

    number : (os : List ℕ) (p n q : ℕ) → n < 2 ^ 64 → Runs os p (encoding (unsigned n)) q → argument_at 0 os p ≡ Some (n, q)
    number os p n q fits run = let u = unsigned-exact.back os p n q fits run in u.1 ∙ ap (λ k. Some (k, q)) u.2

-- where ext comes, no meta comes
ext-other : (os : List ℕ) (p q : ℕ) (ext : Option Entries) → Runs os p (entries_encoding (optionally 6 map ext no_entries)) q → next_key (map_size (optionally 6 map ext no_entries)) 5 os p ≡ None
unfolding next_key encoding
ext-other os p q None r = refl
ext-other os p q (Some es) r =
    let a = cut (head_of 0 6) _ r in
    key-other 5 os p 6 _ (sym (argument-back os 0 p 6 _ (omega arith) a.here)) (λ e. omega arith)

-- what comes before auth in a message with n entries
abbrev pub before : Fields → ℕ → List ℕ
before f n =
    head_of 5 n ++ (encoding (unsigned 0) ++ (encoding (unsigned 1) ++ (encoding (unsigned 1) ++ (encoding (unsigned f.profile) ++ (encoding (unsigned 2) ++ (encoding (mid_item (mid_of f))
    ++ (encoding (unsigned 3) ++ (encoding (cmd_item (cmd_of f)) ++ encoding (unsigned 4)))))))))

-- how many entries a message has
abbrev pub size : Fields → ℕ
size f = suc (suc (suc (suc (suc (map_size (optionally 5 meta_tree f.meta (optionally 6 map f.ext no_entries)))))))

-- where the signature's entry stands in the octets of f
pub record Laid (v : Auth) (f : Fields) : Type 0 where
  pub place : v.place ≡ length (before f (size f))
  pub entry : v.entry ≡ v.place + 1 + length (front (auth_of f))
  pub end : v.signature.start + v.signature.len ≡ v.entry + length (signed (auth_of f))

pub one-octet : (ctx : Option (List ℕ)) → length (head_of 5 (suc (bare ctx))) ≡ 1
unfolding head_of
one-octet None = refl
one-octet (Some bs) = refl

joined : (a b c d e g h i j k : List ℕ) → 0 + length a + length b + length c + length d + length e + length g + length h + length i + length j + length k ≡ length (a ++ (b ++ (c ++ (d ++ (e ++ (g ++ (h ++ (i ++ (j ++ k)))))))))
joined a b c d e g h i j k = simp length-append (omega arith)

fronted : (p n q : ℕ) (a b c d : List ℕ) → n ≡ 1 → q ≡ p + n + length a + length b + length c + length d → q ≡ p + 1 + length (a ++ (b ++ (c ++ d)))
fronted p n q a b c d one e = simp length-append (omega arith)

ended_by : (p q : ℕ) (a b : List ℕ) → q ≡ p + length a + length b → q ≡ p + length (a ++ b)
ended_by p q a b e = simp length-append (omega arith)

laid_by : (os : List ℕ) (f : Fields) (v : Auth)
    → AuthSees os (0 + length (head_of 5 (size f)) + length (encoding (unsigned 0)) + length (encoding (unsigned 1)) + length (encoding (unsigned 1)) + length (encoding (unsigned f.profile)) + length (encoding (unsigned 2)) + length (encoding (mid_item (mid_of f)))
    + length (encoding (unsigned 3)) + length (encoding (cmd_item (cmd_of f))) + length (encoding (unsigned 4))) v (auth_of f)
    → Laid v f
laid_by os f v s = record {
  place = s.place ∙ joined (head_of 5 (size f)) (encoding (unsigned 0)) (encoding (unsigned 1)) (encoding (unsigned 1)) (encoding (unsigned f.profile)) (encoding (unsigned 2)) (encoding (mid_item (mid_of f))) (encoding (unsigned 3)) (encoding (cmd_item (cmd_of f))) (encoding (unsigned 4));
  entry = fronted v.place (length (head_of 5 (suc (bare f.ctx)))) v.entry (encoding (unsigned 0)) (encoding (unsigned f.alg)) (encoding (unsigned 1)) (encoding (bytes f.kid)) (one-octet f.ctx)
      (s.entry ∙ ap (λ k. k + length (head_of 5 (suc (bare f.ctx))) + length (encoding (unsigned 0)) + length (encoding (unsigned f.alg)) + length (encoding (unsigned 1)) + length (encoding (bytes f.kid))) (sym s.place));
  end = ended_by v.entry _ (encoding (unsigned 2)) (encoding (bytes f.signature)) s.end;
}

pub size_small : (f : Fields) → size f < 2 ^ 64
size_small f =
    let es : Entries = optionally 6 map f.ext no_entries in
    small _ _ _ (optionally-size 5 meta_tree f.meta es) (optionally-few 5 meta_tree f.meta) (optionally-few 6 map f.ext)
  where
    small : (k m n : ℕ) → k ≡ m + n → m ≤ 1 → n ≤ 1 → suc (suc (suc (suc (suc k)))) < 2 ^ 64
    small k m n e a b = omega arith

view-all : (os : List ℕ) (head : ℕ × ℕ) (body : (ℕ × Mid × Cmd × Auth) × ℕ) (meta : Option Meta) (left p : ℕ) (ext : Option Span)
    → map_of 5 os 0 ≡ Some head → body_at os head.1 ≡ Some body → optional head.0 5 meta_at os body.1 ≡ Some (meta, left, p) → optional left 6 map_at os p ≡ Some (ext, 0, length os)
    → view_of os ≡ Some (record { profile = body.0.0; mid = body.0.1; cmd = body.0.2; auth = body.0.3; meta = meta; ext = ext })
unfolding view_of
view-all os head body meta left p ext e₀ e₁ e₂ e₃ = let t : eqb (length os) (length os) ≡ true = grind (arith, nat_tests) in rw (e₀, e₁, e₂, e₃, t)

pub record ViewBack (os : List ℕ) (f : Fields) : Type 0 where
  pub view : View
  pub is : view_of os ≡ Some view
  pub shows : Shows os view f
  pub laid : Laid view.auth f

pub view-back : (os : List ℕ) (f : Fields) → FieldsGood f → encoding (tree f) ≡ os → ViewBack os f
unfolding encoding
view-back os f good is =
    let es : Entries = optionally 6 map f.ext no_entries in
    let run : Runs os 0 (encoding (tree f)) (length os) = record { at = whole-at os (encoding (tree f)) is; on = ends _ _ (ap length is) } in
    let a = cut (head_of 5 (size f)) _ run in
    let e₀ = map_back os 5 0 (map_size (optionally 5 meta_tree f.meta es)) (size f) _ (five _) (size_small f) a.here in
    let b = body_back os _ f.profile (mid_of f) (cmd_of f) (auth_of f) _ _ good.profile good.mid good.cmd good.auth a.then in
    let c = optional-back meta_at meta_tree EchoGood MetaShows meta-parses 5 (omega arith) os b.behind f.meta es (length os) good.meta (ext-other os b.behind (length os) f.ext) b.on in
    let d = optional-back map_at map MapGood MapSpot (parses map-exact) 6 (omega arith) os c.behind f.ext no_entries (length os) good.ext (λ _. no_key 6 os _) c.on in
    let on : d.behind ≡ length os = nothing _ _ d.on.on in
    record {
      view = _;
      is = view-all os _ _ _ _ _ _ e₀ b.is c.is (d.is ∙ ap (λ k. Some (d.value, 0, k)) on);
      shows = record {
        profile = refl;
        epoch = b.mid-sees.epoch;
        counter = b.mid-sees.counter;
        sid = b.mid-sees.sid;
        exp = b.mid-sees.exp;
        kind = b.cmd-sees.kind;
        args = b.cmd-sees.args;
        duo = b.cmd-sees.duo;
        alg = b.auth-sees.alg;
        kid = b.auth-sees.kid;
        signature = b.auth-sees.signature;
        ctx = b.auth-sees.ctx;
        meta = c.sees;
        ext = d.sees;
      };
      laid = laid_by os f _ b.auth-sees;
    }
  where
    ends : (n l : ℕ) → n ≡ l → l ≡ 0 + n
    ends n l e = omega arith

    five : (n : ℕ) → suc (suc (suc (suc (suc n)))) ≡ 5 + n
    five n = omega arith

    nothing : (q p : ℕ) → q ≡ p + 0 → p ≡ q
    nothing q p e = omega arith
