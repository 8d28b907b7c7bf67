-- What a view shows of the fields of a message.
use Rattle.std.specs.Prelude.{◌≡◌, ℕ, List, Some, None, Option}
use Rattle.items.specs.declared.types.Span.{Span}
use Rattle.items.specs.Trees.{Entries, map, encoding}
use Rattle.items_laws.specs.Exact.{Spot}
use Rattle.message.specs.declared.types.Meta.{Meta}
use Rattle.message.specs.declared.types.View.{View}
use Rattle.message.specs.Fields.{Fields, meta_tree}

-- both are there, and R holds of them, or both are absent
abbrev pub Both : {V X : Type 0} → (V → X → Type 0) → Option V → Option X → Type 0
Both R None None = Unit {0}
Both R (Some v) (Some x) = R v x
Both R None (Some x) = ⊥
Both R (Some v) None = ⊥

-- the span is where this map is encoded
abbrev pub MapSpot : List ℕ → Span → Entries → Type 0
MapSpot os s es = Spot os s (encoding (map es))

-- the metadata stand here, and their echo
pub record MetaShows (os : List ℕ) (m : Meta) (said : Option (List ℕ)) : Type 0 where
  pub span : Spot os m.span (encoding (meta_tree said))
  pub echo : Both (Spot os) m.echo said

-- numbers and identifiers are those of f, and strings and maps stand where v says
pub record Shows (os : List ℕ) (v : View) (f : Fields) : Type 0 where
  pub profile : v.profile ≡ f.profile
  pub epoch : v.mid.epoch ≡ f.epoch
  pub counter : v.mid.counter ≡ f.counter
  pub sid : v.mid.sid ≡ f.sid
  pub exp : v.mid.exp ≡ f.exp
  pub kind : v.cmd.kind ≡ f.kind
  pub args : MapSpot os v.cmd.args f.args
  pub duo : Both (Spot os) v.cmd.duo f.duo
  pub alg : v.auth.alg ≡ f.alg
  pub kid : v.auth.kid ≡ f.kid
  pub signature : Spot os v.auth.signature f.signature
  pub ctx : Both (Spot os) v.auth.ctx f.ctx
  pub meta : Both (MetaShows os) v.meta f.meta
  pub ext : Both (MapSpot os) v.ext f.ext
