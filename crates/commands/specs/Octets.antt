-- The arguments as they are read from octets, and the request that they make.
use Rattle.std.specs.Prelude.{ℕ, Bool, false, List, Some, None, Ok, Err, Option, Result, ◌==◌}
use Rattle.answers.specs.declared.refusal.Refusal.{Refusal}
use Rattle.items.specs.declared.types.Fault.{Fault}
use Rattle.items.specs.declared.types.Span.{Span}
use Rattle.items.specs.Fields.{unsigned_at, integer_at, bytes_at, text_at, map_head_at}
use Rattle.items.specs.Lookup.{lookup_of}
use Rattle.commands.specs.declared.arguments.Arguments.{Arguments}
use Rattle.commands.specs.declared.types.Track.{Track}
use Rattle.commands.specs.declared.types.Track.TheVariants.{Number, Octets}
use Rattle.commands.specs.declared.types.Request.{Request}
use Rattle.commands.specs.declared.types.Request.TheVariants as requests
use Rattle.commands.specs.Arguments.{Source}
use Rattle.commands.specs.Orders.{Order, heartbeat, queue, suggest, remove, state, seek, rate, next, previous, text, reserved, order_in}

-- what a lookup found, unless it met a fault
abbrev pub looked_up : Result (Option ℕ) Fault → Option (Option ℕ)
looked_up (Err e) = None
looked_up (Ok at) = Some at

-- the field without the place behind it
abbrev pub field : {X : Type 0} → Option (X × ℕ) → Option X
field None = None
field (Some x) = Some x.0

-- a track: the unsigned number that was read, if one was, and else the byte string
abbrev pub either_track : Option (ℕ × ℕ) → Option (Span × ℕ) → Option Track
either_track (Some x) y = Some (Number x.0)
either_track None None = None
either_track None (Some y) = Some (Octets y.0)

-- the map has so many entries
abbrev pub sized : Option (ℕ × ℕ) → ℕ → Bool
sized None m = false
sized (Some x) m = x.0 == m

-- the map at p: values by their places, strings by their spans; since the keys of a map are distinct, as many entries as were found are no others
abbrev pub arguments_at : List ℕ → ℕ → Source ℕ Track Span
arguments_at os p = record {
  value = λ key. looked_up (lookup_of os p key);
  unsigned = λ q. field (unsigned_at os q);
  integer = λ q. field (integer_at os q);
  track = λ q. either_track (unsigned_at os q) (bytes_at os q);
  text = λ q. field (text_at os q);
  only = λ n m. sized (map_head_at os p) m;
}

-- the arguments that are read
abbrev pub source_of : Arguments → Source ℕ Track Span
source_of a = arguments_at a.octets.now a.place

-- the request of an order
abbrev pub request_of : Order Track Span → Request
request_of (heartbeat time) = requests.Heartbeat time
request_of (queue track priority earliest latest) = requests.Queue track priority earliest latest
request_of (suggest track weight) = requests.Suggest track weight
request_of (remove item) = requests.Remove item
request_of (state n) = requests.State n
request_of (seek milliseconds) = requests.Seek milliseconds
request_of (rate percent) = requests.Rate percent
request_of next = requests.Next
request_of previous = requests.Previous
request_of (text target mode shown) = requests.Text target mode shown
request_of (reserved kind) = requests.Reserved kind

-- the request that was made, if one was
abbrev pub requested : Option (Order Track Span) → Option Request
requested None = None
requested (Some order) = Some (request_of order)

-- the request, or the refusal
abbrev pub answered : Result (Order Track Span) Refusal → Result Request Refusal
answered (Ok order) = Ok (request_of order)
answered (Err e) = Err e

-- what the command type and the map at p ask for
unfoldable pub request_at : List ℕ → ℕ → ℕ → Result Request Refusal
request_at os kind p = answered (order_in (arguments_at os p) kind)
