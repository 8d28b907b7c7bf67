-- auth is read exactly where it is encoded, and the places in it are known.
use Rattle.std.proofs.Common.{◌≡◌, ℕ, suc, ◌+◌, ◌≤◌, List, ◌++◌, length, Some, Option, sym, refl, ap, ◌∙◌, subst, arith}
use Rattle.items.specs.declared.types.Span.{Span}
use Rattle.items.specs.Fields.{key_at, string_at}
use Rattle.items.specs.Trees.{Item, unsigned, bytes, no_entries, head_of, map_size, encoding, entries_encoding, Runs}
use Rattle.items_laws.specs.Laws.{Octets}
use Rattle.items_laws.specs.Exact.{Spot}
use Rattle.items_laws.proofs.Runnings.{bound, cut, runs_in, key_back, key-sound, runs_join, bytes-exact}
use Rattle.message.specs.declared.types.Auth.{Auth}
use Rattle.message.specs.Entries.{map_of, id_at, alg_at, context_at, optional}
use Rattle.message.specs.Parts.{auth_at}
use Rattle.message.specs.Fields.{optionally, auth_tree}
use Rattle.message.proofs.Bounds.{string_lies, ended_is}
use Rattle.message_laws.proofs.Ways.{id_parses, IsAlg, alg-parses, context_parses, map-sound, map_back, Given, optional-sound, optional-back, optionally-few, no_key}
use Rattle.message_laws.proofs.Cmds.{Short}
use Rattle.message_laws.specs.Shows.{Both}

-- the fields of auth
pub record AuthFields : Type 0 where
  pub alg : ℕ
  pub kid : List ℕ
  pub signature : List ℕ
  pub ctx : Option (List ℕ)

abbrev pub auth_item : AuthFields → Item
auth_item f = auth_tree f.alg f.kid (Some f.signature) f.ctx

pub record AuthGood (f : AuthFields) : Type 0 where
  pub alg : IsAlg f.alg
  pub kid : length f.kid ≡ 16
  pub signature : Short f.signature
  pub ctx : Given (λ bs. length bs ≤ 32) f.ctx

-- how many entries auth has without its signature
abbrev pub bare : Option (List ℕ) → ℕ
bare ctx = suc (suc (map_size (optionally 3 bytes ctx no_entries)))

-- what stands in auth before the signature's entry, and that entry
abbrev pub front : AuthFields → List ℕ
front f = encoding (unsigned 0) ++ (encoding (unsigned f.alg) ++ (encoding (unsigned 1) ++ encoding (bytes f.kid)))

abbrev pub signed : AuthFields → List ℕ
signed f = encoding (unsigned 2) ++ encoding (bytes f.signature)

pub record AuthSees (os : List ℕ) (p : ℕ) (v : Auth) (f : AuthFields) : Type 0 where
  pub alg : v.alg ≡ f.alg
  pub kid : v.kid ≡ f.kid
  pub signature : Spot os v.signature f.signature
  pub ctx : Both (Spot os) v.ctx f.ctx
  pub place : v.place ≡ p
  pub entry : v.entry ≡ p + length (head_of 5 (suc (bare f.ctx))) + length (encoding (unsigned 0)) + length (encoding (unsigned f.alg)) + length (encoding (unsigned 1)) + length (encoding (bytes f.kid))
  pub end : v.signature.start + v.signature.len ≡ v.entry + length (encoding (unsigned 2)) + length (encoding (bytes f.signature))

pub auth-sound : (os : List ℕ) → Octets os → (p : ℕ) (v : Auth) (q : ℕ) → auth_at os p ≡ Some (v, q) → (f : AuthFields) × AuthGood f × Runs os p (encoding (auth_item f)) q
unfolding auth_at encoding
auth-sound os octet p v q is =
    let a = bound (map_of 3 os p) _ _ is in
    let b = bound (key_at 0 os a.got.1) _ _ a.rest in
    let c = bound (alg_at os b.got) _ _ b.rest in
    let d = bound (key_at 1 os c.got.1) _ _ c.rest in
    let e = bound (id_at os d.got) _ _ d.rest in
    let g = bound (key_at 2 os e.got.1) _ _ e.rest in
    let h = bound (string_at 2 os g.got) _ _ g.rest in
    let i = bound (optional a.got.0 3 context_at os h.got.1) _ _ h.rest in
    let z = ended_is i.got.1 _ _ i.rest in
    let on : i.got.2 ≡ q = ap (λ x. x.1) z.1 in
    let ra = map-sound os octet 3 p a.got.0 a.got.1 a.first in
    let rb = key-sound os octet 0 a.got.1 b.got b.first in
    let rc = alg-parses.sound os octet b.got c.got.0 c.got.1 c.first in
    let rd = key-sound os octet 1 c.got.1 d.got d.first in
    let re = id_parses.sound os octet d.got e.got.0 e.got.1 e.first in
    let rg = key-sound os octet 2 e.got.1 g.got g.first in
    let rh = bytes-exact.sound os octet g.got h.got.0 h.got.1 h.first in
    let ri = optional-sound context_at bytes (λ bs. length bs ≤ 32) Spot context_parses 3 (omega arith) os octet a.got.0 h.got.1 i.got.0 i.got.1 i.got.2 (runs_in rh.2) i.first in
    let f : AuthFields = record { alg = rc.0; kid = re.0; signature = rh.0; ctx = ri.value } in
    let many : 3 + a.got.0 ≡ suc (suc (suc (map_size (optionally 3 bytes ri.value no_entries)))) = counted a.got.0 i.got.1 _ ri.counted z.0 in
    let head = subst (λ n. Runs os p (head_of 5 n) a.got.1) many ra in
    let last = subst (Runs os h.got.1 (entries_encoding (optionally 3 bytes ri.value no_entries))) on ri.runs in (
      f,
      record { alg = rc.1; kid = re.1; signature = rh.1; ctx = ri.good },
      runs_join os octet head (runs_join os octet rb (runs_join os octet rc.2 (runs_join os octet rd (runs_join os octet re.2 (runs_join os octet rg (runs_join os octet rh.2 last)))))),
    )
  where
    counted : (left rest n : ℕ) → left ≡ n + rest → rest ≡ 0 → 3 + left ≡ suc (suc (suc n))
    counted left rest n e z = omega arith

auth-all : (os : List ℕ) (p : ℕ) (head : ℕ × ℕ) (p₀ : ℕ) (alg : ℕ × ℕ) (p₁ : ℕ) (kid : List ℕ × ℕ) (p₂ : ℕ) (signature : Span × ℕ) (ctx : Option Span) (q : ℕ)
    → map_of 3 os p ≡ Some head → key_at 0 os head.1 ≡ Some p₀ → alg_at os p₀ ≡ Some alg → key_at 1 os alg.1 ≡ Some p₁ → id_at os p₁ ≡ Some kid → key_at 2 os kid.1 ≡ Some p₂
    → string_at 2 os p₂ ≡ Some signature → optional head.0 3 context_at os signature.1 ≡ Some (ctx, 0, q)
    → auth_at os p ≡ Some (record { place = p; alg = alg.0; kid = kid.0; entry = kid.1; signature = signature.0; ctx = ctx }, q)
unfolding auth_at
auth-all os p head p₀ alg p₁ kid p₂ signature ctx q e₀ e₁ e₂ e₃ e₄ e₅ e₆ e₇ = rw (e₀, e₁, e₂, e₃, e₄, e₅, e₆, e₇)

pub auth-back : (os : List ℕ) (p : ℕ) (f : AuthFields) (q : ℕ) → AuthGood f → Runs os p (encoding (auth_item f)) q → (v : Auth) × (auth_at os p ≡ Some (v, q)) × AuthSees os p v f
unfolding encoding
auth-back os p f q good r =
    let few = optionally-few 3 bytes f.ctx in
    let a = cut (head_of 5 (suc (bare f.ctx))) _ r in
    let b = cut _ _ a.then in
    let c = cut _ _ b.then in
    let d = cut _ _ c.then in
    let e = cut _ _ d.then in
    let g = cut _ _ e.then in
    let h = cut _ _ g.then in
    let e₀ = map_back os 3 p (map_size (optionally 3 bytes f.ctx no_entries)) _ _ (omega arith) (omega arith) a.here in
    let e₁ = key_back os 0 _ _ (omega arith) b.here in
    let alg = alg-parses.back os _ f.alg _ good.alg c.here in
    let e₃ = key_back os 1 _ _ (omega arith) d.here in
    let kid = id_parses.back os _ f.kid _ good.kid e.here in
    let e₅ = key_back os 2 _ _ (omega arith) g.here in
    let sig = bytes-exact.back os _ f.signature _ good.signature h.here in
    let ctx = optional-back context_at bytes (λ bs. length bs ≤ 32) Spot context_parses 3 (omega arith) os _ f.ctx no_entries q good.ctx (λ _. no_key 3 os _) h.then in
    let on : ctx.behind ≡ q = sym (omega (arith, ctx.on.on)) in (
      _,
      auth-all os p _ _ _ _ _ _ _ _ _ e₀ e₁ alg.1 e₃ kid.1 e₅ sig.1 (ctx.is ∙ ap (λ k. Some (ctx.value, 0, k)) on),
      record { alg = alg.2; kid = kid.2; signature = sig.2; ctx = ctx.sees; place = refl; entry = refl; end = (string_lies 2 os _ sig.0 _ sig.1).on },
    )
