-- What reading a request means: the order that the map of arguments is.
use Rattle.std.specs.Prelude.{◌≡◌, ℕ, true, false, List, ℤ, Ok, Err, Option, Result}
use Rattle.answers.specs.declared.refusal.Refusal.{Refusal}
use Rattle.answers.specs.declared.refusal.Refusal.TheVariants.{UnknownCommand, BadArguments}
use Rattle.items.specs.declared.types.Span.{Span}
use Rattle.items.specs.Trees.{Entries, map, encoding, Canonical, At}
use Rattle.items_laws.specs.Exact.{Spot}
use Rattle.commands.specs.declared.types.Track.{Track}
use Rattle.commands.specs.declared.types.Track.TheVariants.{Number, Octets}
use Rattle.commands.specs.declared.types.Request.{Request}
use Rattle.commands.specs.declared.types.Request.TheVariants.{Heartbeat, Queue, Suggest, Remove, State, Seek, Rate, Next, Previous, Text, Reserved}
use Rattle.commands.specs.declared.types.Command.{Command}
use Rattle.commands.specs.declared.types.Command.TheVariants as commands
use Rattle.commands.specs.Orders.{Order, listed_type, heartbeat, queue, suggest, remove, state, seek, rate, next, previous, text, reserved}
use Rattle.commands.specs.Entries as entries
use Rattle.commands.specs.Entries.{order_of}

-- the track that is read shows the track of the order: the same number, or where its octets stand
pub data ShowsTrack (os : List ℕ) : Track → entries.Track → Type 0 where
  shows_number : (n : ℕ) → ShowsTrack os (Number n) (entries.number n)
  shows_octets : (s : Span) (bs : List ℕ) → Spot os s bs → ShowsTrack os (Octets s) (entries.octets bs)

-- the request shows the order: the same numbers, and strings by where their octets stand
pub data Shows (os : List ℕ) : Request → Order entries.Track (List ℕ) → Type 0 where
  shows_heartbeat : (time : Option ℕ) → Shows os (Heartbeat time) (heartbeat time)
  shows_queue : (track : Track) (ordered : entries.Track) → ShowsTrack os track ordered → (priority : ℤ) (earliest latest : Option ℕ) → Shows os (Queue track priority earliest latest) (queue ordered priority earliest latest)
  shows_suggest : (track : Track) (ordered : entries.Track) → ShowsTrack os track ordered → (weight : ℤ) → Shows os (Suggest track weight) (suggest ordered weight)
  shows_remove : (item : ℕ) → Shows os (Remove item) (remove item)
  shows_state : (n : ℕ) → Shows os (State n) (state n)
  shows_seek : (milliseconds : ℤ) → Shows os (Seek milliseconds) (seek milliseconds)
  shows_rate : (percent : ℕ) → Shows os (Rate percent) (rate percent)
  shows_next : Shows os Next next
  shows_previous : Shows os Previous previous
  shows_text : (target mode : ℕ) (s : Span) (bs : List ℕ) → Spot os s bs → Shows os (Text target mode s) (text target mode bs)
  shows_reserved : (kind : ℕ) → Shows os (Reserved kind) (reserved kind)

-- what is answered to an order: a request that shows it, or its refusal
abbrev pub Answers : List ℕ → Result (Order entries.Track (List ℕ)) Refusal → Result Request Refusal → Type 0
Answers os (Ok order) r = (request : Request) × (r ≡ Ok request) × Shows os request order
Answers os (Err e) r = r ≡ Err e

-- where a map that a message may hold is encoded at p, the answer is that to the order of its entries
abbrev pub AnswersOrder : List ℕ → ℕ → ℕ → Result Request Refusal → Type 0
AnswersOrder os kind p r = (es : Entries) → Canonical (map es) → At os p (encoding (map es)) → Answers os (order_of kind es) r

-- a type that is not listed is refused as unknown, no other is, and a listed type is refused for its arguments only
pub record RefusesByType (kind : ℕ) (r : Result Request Refusal) : Type 0 where
  pub unlisted : listed_type kind ≡ false → r ≡ Err UnknownCommand
  pub unknown : r ≡ Err UnknownCommand → listed_type kind ≡ false
  pub arguments : (e : Refusal) → listed_type kind ≡ true → r ≡ Err e → e ≡ BadArguments

-- where the octets of a text stand at its span, they are the text of the command
abbrev pub HandsOut : List ℕ → Command → List ℕ → Type 0
HandsOut os command r = (target mode : ℕ) (s : Span) (bs : List ℕ) → command ≡ commands.Text target mode s → Spot os s bs → r ≡ bs
