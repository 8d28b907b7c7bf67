-- mid is read exactly where it is encoded.
use Rattle.std.proofs.Common.{◌≡◌, ℕ, suc, ◌+◌, ◌^◌, ◌<◌, List, length, Some, Option, sym, refl, ap, ◌∙◌, subst, arith}
use Rattle.items.specs.Fields.{argument_at, key_at}
use Rattle.items.specs.Trees.{Item, unsigned, no_entries, head_of, map_size, encoding, entries_encoding, Runs}
use Rattle.items_laws.specs.Laws.{Octets}
use Rattle.items_laws.specs.Exact.{Fits, Same}
use Rattle.items_laws.proofs.Runnings.{bound, cut, runs_in, argument-back, argument-sound, key_back, key-sound, runs_join, unsigned-exact}
use Rattle.message.specs.declared.types.Mid.{Mid}
use Rattle.message.specs.Entries.{map_of, id_at, optional}
use Rattle.message.specs.Parts.{mid_at}
use Rattle.message.specs.Fields.{optionally, mid_tree}
use Rattle.message.proofs.Bounds.{ended_is}
use Rattle.message_laws.proofs.Ways.{Parses, parses, id_parses, map-sound, map_back, Given, optional-sound, optional-back, optionally-few, no_key, same_option}

-- the fields of mid
pub record MidFields : Type 0 where
  pub epoch : ℕ
  pub counter : ℕ
  pub sid : List ℕ
  pub exp : Option ℕ

abbrev pub mid_item : MidFields → Item
mid_item f = mid_tree f.epoch f.counter f.sid f.exp

pub record MidGood (f : MidFields) : Type 0 where
  pub epoch : f.epoch < 2 ^ 64
  pub counter : f.counter < 2 ^ 64
  pub sid : length f.sid ≡ 16
  pub exp : Given Fits f.exp

pub record MidSees (os : List ℕ) (v : Mid) (f : MidFields) : Type 0 where
  pub epoch : v.epoch ≡ f.epoch
  pub counter : v.counter ≡ f.counter
  pub sid : v.sid ≡ f.sid
  pub exp : v.exp ≡ f.exp

size : MidFields → ℕ
size f = suc (suc (suc (map_size (optionally 3 unsigned f.exp no_entries))))

mid-sound : (os : List ℕ) → Octets os → (p : ℕ) (v : Mid) (q : ℕ) → mid_at os p ≡ Some (v, q) → (f : MidFields) × MidGood f × Runs os p (encoding (mid_item f)) q
unfolding mid_at encoding
mid-sound os octet p v q is =
    let a = bound (map_of 3 os p) _ _ is in
    let b = bound (key_at 0 os a.got.1) _ _ a.rest in
    let c = bound (argument_at 0 os b.got) _ _ b.rest in
    let d = bound (key_at 1 os c.got.1) _ _ c.rest in
    let e = bound (argument_at 0 os d.got) _ _ d.rest in
    let g = bound (key_at 2 os e.got.1) _ _ e.rest in
    let h = bound (id_at os g.got) _ _ g.rest in
    let i = bound (optional a.got.0 3 (argument_at 0) os h.got.1) _ _ h.rest in
    let z = ended_is i.got.1 _ _ i.rest in
    let on : i.got.2 ≡ q = ap (λ x. x.1) z.1 in
    let ra = map-sound os octet 3 p a.got.0 a.got.1 a.first in
    let rb = key-sound os octet 0 a.got.1 b.got b.first in
    let rc = argument-sound os octet 0 b.got c.got.0 c.got.1 c.first in
    let rd = key-sound os octet 1 c.got.1 d.got d.first in
    let re = argument-sound os octet 0 d.got e.got.0 e.got.1 e.first in
    let rg = key-sound os octet 2 e.got.1 g.got g.first in
    let rh = id_parses.sound os octet g.got h.got.0 h.got.1 h.first in
    let ri = optional-sound (argument_at 0) unsigned Fits Same (parses unsigned-exact) 3 (omega arith) os octet a.got.0 h.got.1 i.got.0 i.got.1 i.got.2 (runs_in rh.2) i.first in
    let f : MidFields = record { epoch = c.got.0; counter = e.got.0; sid = rh.0; exp = ri.value } in
    let many : 3 + a.got.0 ≡ suc (suc (suc (map_size (optionally 3 unsigned ri.value no_entries)))) = counted a.got.0 i.got.1 _ ri.counted z.0 in
    let head = subst (λ n. Runs os p (head_of 5 n) a.got.1) many ra in
    let last = subst (Runs os h.got.1 (entries_encoding (optionally 3 unsigned ri.value no_entries))) on ri.runs in (
      f,
      record { epoch = rc.1; counter = re.1; sid = rh.1; exp = ri.good },
      runs_join os octet head (runs_join os octet rb (runs_join os octet rc.0 (runs_join os octet rd (runs_join os octet re.0 (runs_join os octet rg (runs_join os octet rh.2 last)))))),
    )
  where
    counted : (left rest n : ℕ) → left ≡ n + rest → rest ≡ 0 → 3 + left ≡ suc (suc (suc n))
    counted left rest n e z = omega arith

mid-all : (os : List ℕ) (p : ℕ) (head : ℕ × ℕ) (p₀ : ℕ) (epoch : ℕ × ℕ) (p₁ : ℕ) (counter : ℕ × ℕ) (p₂ : ℕ) (sid : List ℕ × ℕ) (exp : Option ℕ) (q : ℕ)
    → map_of 3 os p ≡ Some head → key_at 0 os head.1 ≡ Some p₀ → argument_at 0 os p₀ ≡ Some epoch → key_at 1 os epoch.1 ≡ Some p₁ → argument_at 0 os p₁ ≡ Some counter → key_at 2 os counter.1 ≡ Some p₂
    → id_at os p₂ ≡ Some sid → optional head.0 3 (argument_at 0) os sid.1 ≡ Some (exp, 0, q) → mid_at os p ≡ Some (record { epoch = epoch.0; counter = counter.0; sid = sid.0; exp = exp }, q)
unfolding mid_at
mid-all os p head p₀ epoch p₁ counter p₂ sid exp q e₀ e₁ e₂ e₃ e₄ e₅ e₆ e₇ = rw (e₀, e₁, e₂, e₃, e₄, e₅, e₆, e₇)

mid_back : (os : List ℕ) (p : ℕ) (f : MidFields) (q : ℕ) → MidGood f → Runs os p (encoding (mid_item f)) q → (v : Mid) × (mid_at os p ≡ Some (v, q)) × MidSees os v f
unfolding encoding
mid_back os p f q good r =
    let few = optionally-few 3 unsigned f.exp in
    let a = cut (head_of 5 (suc (suc (suc (map_size (optionally 3 unsigned f.exp no_entries)))))) _ r in
    let b = cut _ _ a.then in
    let c = cut _ _ b.then in
    let d = cut _ _ c.then in
    let e = cut _ _ d.then in
    let g = cut _ _ e.then in
    let h = cut _ _ g.then in
    let e₀ = map_back os 3 p (map_size (optionally 3 unsigned f.exp no_entries)) _ _ (omega arith) (omega arith) a.here in
    let e₁ = key_back os 0 _ _ (omega arith) b.here in
    let e₂ = argument-back os 0 _ f.epoch _ good.epoch c.here in
    let e₃ = key_back os 1 _ _ (omega arith) d.here in
    let e₄ = argument-back os 0 _ f.counter _ good.counter e.here in
    let e₅ = key_back os 2 _ _ (omega arith) g.here in
    let sid = id_parses.back os _ f.sid _ good.sid h.here in
    let exp = optional-back (argument_at 0) unsigned Fits Same (parses unsigned-exact) 3 (omega arith) os _ f.exp no_entries q good.exp (λ _. no_key 3 os _) h.then in
    let on : exp.behind ≡ q = sym (omega (arith, exp.on.on)) in
    (_, mid-all os p _ _ _ _ _ _ _ _ _ e₀ e₁ e₂ e₃ e₄ e₅ sid.1 (exp.is ∙ ap (λ k. Some (exp.value, 0, k)) on), record { epoch = refl; counter = refl; sid = sid.2; exp = same_option _ _ exp.sees })

pub mid-parses : Parses mid_at mid_item MidGood MidSees
mid-parses = record { sound = mid-sound; back = mid_back }
