-- cmd and meta are read exactly where they are encoded.
use Rattle.std.proofs.Common.{◌≡◌, ℕ, suc, ◌+◌, ◌-◌, ◌^◌, ◌<◌, ◌≤◌, List, length, Some, Option, sym, refl, ap, ◌∙◌, subst, arith}
use Rattle.items.specs.declared.types.Span.{Span}
use Rattle.items.specs.Fields.{argument_at, key_at, string_at, map_at}
use Rattle.items.specs.Trees.{Item, bytes, map, Entries, no_entries, head_of, map_size, encoding, entries_encoding, Canonical, Runs}
use Rattle.items_laws.specs.Laws.{Octets}
use Rattle.items_laws.specs.Exact.{Spot}
use Rattle.items_laws.proofs.Runnings.{bound, cut, runs_in, argument-back, argument-sound, key_back, key-sound, runs_join, bytes-exact, map-exact}
use Rattle.message.specs.declared.types.Cmd.{Cmd}
use Rattle.message.specs.declared.types.Meta.{Meta}
use Rattle.message.specs.Entries.{map_of, context_at, optional}
use Rattle.message.specs.Parts.{cmd_at, meta_at}
use Rattle.message.specs.Fields.{optionally, cmd_tree, meta_tree}
use Rattle.message.proofs.Bounds.{ended_is}
use Rattle.message_laws.proofs.Ways.{Parses, parses, context_parses, map-sound, map_back, Given, optional-sound, optional-back, optionally-few, no_key}
use Rattle.message_laws.specs.Shows.{Both, MapSpot, MetaShows}

-- the fields of cmd
pub record CmdFields : Type 0 where
  pub kind : ℕ
  pub args : Entries
  pub duo : Option (List ℕ)

abbrev pub cmd_item : CmdFields → Item
cmd_item f = cmd_tree f.kind f.args f.duo

-- a string of less than 2^64 octets
abbrev pub Short : List ℕ → Type 0
Short bs = length bs < 2 ^ 64

pub record CmdGood (f : CmdFields) : Type 0 where
  pub kind : f.kind < 2 ^ 64
  pub args : Canonical (map f.args)
  pub duo : Given Short f.duo

pub record CmdSees (os : List ℕ) (v : Cmd) (f : CmdFields) : Type 0 where
  pub kind : v.kind ≡ f.kind
  pub args : MapSpot os v.args f.args
  pub duo : Both (Spot os) v.duo f.duo

cmd-sound : (os : List ℕ) → Octets os → (p : ℕ) (v : Cmd) (q : ℕ) → cmd_at os p ≡ Some (v, q) → (f : CmdFields) × CmdGood f × Runs os p (encoding (cmd_item f)) q
unfolding cmd_at encoding
cmd-sound os octet p v q is =
    let a = bound (map_of 2 os p) _ _ is in
    let b = bound (key_at 0 os a.got.1) _ _ a.rest in
    let c = bound (argument_at 0 os b.got) _ _ b.rest in
    let d = bound (key_at 1 os c.got.1) _ _ c.rest in
    let e = bound (map_at os d.got) _ _ d.rest in
    let i = bound (optional a.got.0 2 (string_at 2) os e.got.1) _ _ e.rest in
    let z = ended_is i.got.1 _ _ i.rest in
    let on : i.got.2 ≡ q = ap (λ x. x.1) z.1 in
    let ra = map-sound os octet 2 p a.got.0 a.got.1 a.first in
    let rb = key-sound os octet 0 a.got.1 b.got b.first in
    let rc = argument-sound os octet 0 b.got c.got.0 c.got.1 c.first in
    let rd = key-sound os octet 1 c.got.1 d.got d.first in
    let re = map-exact.sound os octet d.got e.got.0 e.got.1 e.first in
    let ri = optional-sound (string_at 2) bytes Short Spot (parses bytes-exact) 2 (omega arith) os octet a.got.0 e.got.1 i.got.0 i.got.1 i.got.2 (runs_in re.2) i.first in
    let f : CmdFields = record { kind = c.got.0; args = re.0; duo = ri.value } in
    let many : 2 + a.got.0 ≡ suc (suc (map_size (optionally 2 bytes ri.value no_entries))) = two a.got.0 i.got.1 _ ri.counted z.0 in
    let head = subst (λ n. Runs os p (head_of 5 n) a.got.1) many ra in
    let last = subst (Runs os e.got.1 (entries_encoding (optionally 2 bytes ri.value no_entries))) on ri.runs in (
      f,
      record { kind = rc.1; args = re.1; duo = ri.good },
      runs_join os octet head (runs_join os octet rb (runs_join os octet rc.0 (runs_join os octet rd (runs_join os octet re.2 last)))),
    )
  where
    two : (left rest n : ℕ) → left ≡ n + rest → rest ≡ 0 → 2 + left ≡ suc (suc n)
    two left rest n e z = omega arith

cmd-all : (os : List ℕ) (p : ℕ) (head : ℕ × ℕ) (p₀ : ℕ) (kind : ℕ × ℕ) (p₁ : ℕ) (args : Span × ℕ) (duo : Option Span) (q : ℕ)
    → map_of 2 os p ≡ Some head → key_at 0 os head.1 ≡ Some p₀ → argument_at 0 os p₀ ≡ Some kind → key_at 1 os kind.1 ≡ Some p₁ → map_at os p₁ ≡ Some args
    → optional head.0 2 (string_at 2) os args.1 ≡ Some (duo, 0, q) → cmd_at os p ≡ Some (record { kind = kind.0; args = args.0; duo = duo }, q)
unfolding cmd_at
cmd-all os p head p₀ kind p₁ args duo q e₀ e₁ e₂ e₃ e₄ e₅ = rw (e₀, e₁, e₂, e₃, e₄, e₅)

cmd-back : (os : List ℕ) (p : ℕ) (f : CmdFields) (q : ℕ) → CmdGood f → Runs os p (encoding (cmd_item f)) q → (v : Cmd) × (cmd_at os p ≡ Some (v, q)) × CmdSees os v f
unfolding encoding
cmd-back os p f q good r =
    let few = optionally-few 2 bytes f.duo in
    let a = cut (head_of 5 (suc (suc (map_size (optionally 2 bytes f.duo no_entries))))) _ r in
    let b = cut _ _ a.then in
    let c = cut _ _ b.then in
    let d = cut _ _ c.then in
    let e = cut (encoding (map f.args)) _ d.then in
    let e₀ = map_back os 2 p (map_size (optionally 2 bytes f.duo no_entries)) _ _ (omega arith) (omega arith) a.here in
    let e₁ = key_back os 0 _ _ (omega arith) b.here in
    let e₂ = argument-back os 0 _ f.kind _ good.kind c.here in
    let e₃ = key_back os 1 _ _ (omega arith) d.here in
    let args = map-exact.back os _ f.args _ good.args e.here in
    let duo = optional-back (string_at 2) bytes Short Spot (parses bytes-exact) 2 (omega arith) os _ f.duo no_entries q good.duo (λ _. no_key 2 os _) e.then in
    let on : duo.behind ≡ q = sym (omega (arith, duo.on.on)) in
    (_, cmd-all os p _ _ _ _ _ _ _ e₀ e₁ e₂ e₃ args.1 (duo.is ∙ ap (λ k. Some (duo.value, 0, k)) on), record { kind = refl; args = args.2; duo = duo.sees })

pub cmd-parses : Parses cmd_at cmd_item CmdGood CmdSees
cmd-parses = record { sound = cmd-sound; back = cmd-back }

-- an echo of up to 32 octets, if there is one
abbrev pub EchoGood : Option (List ℕ) → Type 0
EchoGood echo = Given (λ bs. length bs ≤ 32) echo

meta-sound : (os : List ℕ) → Octets os → (p : ℕ) (v : Meta) (q : ℕ) → meta_at os p ≡ Some (v, q) → (echo : Option (List ℕ)) × EchoGood echo × Runs os p (encoding (meta_tree echo)) q
unfolding meta_at encoding
meta-sound os octet p v q is =
    let a = bound (map_of 0 os p) _ _ is in
    let i = bound (optional a.got.0 0 context_at os a.got.1) _ _ a.rest in
    let z = ended_is i.got.1 _ _ i.rest in
    let on : i.got.2 ≡ q = ap (λ x. x.1) z.1 in
    let ra = map-sound os octet 0 p a.got.0 a.got.1 a.first in
    let ri = optional-sound context_at bytes (λ bs. length bs ≤ 32) Spot context_parses 0 (omega arith) os octet a.got.0 a.got.1 i.got.0 i.got.1 i.got.2 (runs_in ra) i.first in
    let many : 0 + a.got.0 ≡ map_size (optionally 0 bytes ri.value no_entries) = none a.got.0 i.got.1 _ ri.counted z.0 in
    let head = subst (λ n. Runs os p (head_of 5 n) a.got.1) many ra in
    let last = subst (Runs os a.got.1 (entries_encoding (optionally 0 bytes ri.value no_entries))) on ri.runs in
    (ri.value, ri.good, runs_join os octet head last)
  where
    none : (left rest n : ℕ) → left ≡ n + rest → rest ≡ 0 → 0 + left ≡ n
    none left rest n e z = omega arith

meta-all : (os : List ℕ) (p : ℕ) (head : ℕ × ℕ) (echo : Option Span) (q : ℕ) → map_of 0 os p ≡ Some head → optional head.0 0 context_at os head.1 ≡ Some (echo, 0, q)
    → meta_at os p ≡ Some (record { span = record { start = p; len = q - p }; echo = echo }, q)
unfolding meta_at
meta-all os p head echo q e₀ e₁ = rw (e₀, e₁)

meta-back : (os : List ℕ) (p : ℕ) (echo : Option (List ℕ)) (q : ℕ) → EchoGood echo → Runs os p (encoding (meta_tree echo)) q → (v : Meta) × (meta_at os p ≡ Some (v, q)) × MetaShows os v echo
unfolding encoding
meta-back os p echo q good r =
    let few = optionally-few 0 bytes echo in
    let a = cut (head_of 5 (map_size (optionally 0 bytes echo no_entries))) _ r in
    let e₀ = map_back os 0 p (map_size (optionally 0 bytes echo no_entries)) _ _ (omega arith) (omega arith) a.here in
    let i = optional-back context_at bytes (λ bs. length bs ≤ 32) Spot context_parses 0 (omega arith) os _ echo no_entries q good (λ _. no_key 0 os _) a.then in
    let on : i.behind ≡ q = sym (omega (arith, i.on.on)) in
    (_, meta-all os p _ _ q e₀ (i.is ∙ ap (λ k. Some (i.value, 0, k)) on), record { span = record { there = r.at; long = omega (arith, r.on) }; echo = i.sees })

pub meta-parses : Parses meta_at meta_tree EchoGood MetaShows
meta-parses = record { sound = meta-sound; back = meta-back }
