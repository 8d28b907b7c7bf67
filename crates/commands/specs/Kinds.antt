-- The command types that are listed, each by its number.
use Rattle.std.specs.Prelude.{◌≡◌, ℕ, false, Result, MatchResult}
use Rattle.answers.specs.declared.refusal.Refusal.{Refusal}
use Rattle.answers.specs.declared.refusal.Refusal.TheVariants.{UnknownCommand}
use Rattle.commands.specs.declared.kind.Kind.{Kind}
use Rattle.commands.specs.declared.kind.Kind.TheVariants.{Heartbeat, Queue, Suggest, Remove, State, Seek, Rate, Next, Previous, Text, PolicyEpochUpdate, CatalogUpdate}
use Rattle.commands.specs.Orders.{listed_type}

-- the number of a type
abbrev pub number_of : Kind → ℕ
number_of Heartbeat = 0
number_of Queue = 1
number_of Suggest = 2
number_of Remove = 3
number_of State = 10
number_of Seek = 11
number_of Rate = 12
number_of Next = 13
number_of Previous = 14
number_of Text = 20
number_of PolicyEpochUpdate = 30
number_of CatalogUpdate = 31

-- the type with this number, or the refusal of a number that is not listed
abbrev pub Decodes : ℕ → Result Kind Refusal → Type 0
Decodes number r = MatchResult r (λ kind. number_of kind ≡ number) (λ refusal. (refusal ≡ UnknownCommand) × (listed_type number ≡ false))
