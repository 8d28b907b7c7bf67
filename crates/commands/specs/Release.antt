-- Whether a request may be released, the command that it is then, and the text of a command.
use Rattle.std.specs.Prelude.{ℕ, ◌+◌, Bool, true, false, cond, not, ◌&&◌, ◌||◌, List, [], ◌∷◌, length, Some, None, Option, ◌==◌, nat_le}
use Rattle.items.specs.declared.types.Span.{Span}
use Rattle.items.specs.Heads.{part}
use Rattle.items.specs.Fields.{bind}
use Rattle.commands.specs.declared.types.Track.{Track}
use Rattle.commands.specs.declared.types.Track.TheVariants.{Number, Octets}
use Rattle.commands.specs.declared.types.Request.{Request}
use Rattle.commands.specs.declared.types.Request.TheVariants.{Heartbeat, Queue, Suggest, Remove, State, Seek, Rate, Next, Previous, Text, Reserved}
use Rattle.commands.specs.declared.types.Command.{Command}
use Rattle.commands.specs.declared.types.Command.TheVariants as commands

-- n is in the catalog
abbrev pub in_catalog : List ℕ → ℕ → Bool
in_catalog [] n = false
in_catalog (x ∷ xs) n = x == n || in_catalog xs n

-- the track is a number in the catalog
abbrev pub track_listed : List ℕ → Track → Bool
track_listed catalog (Number n) = in_catalog catalog n
track_listed catalog (Octets s) = false

-- the type is neither 30 nor 31
abbrev pub not_reserved : Request → Bool
not_reserved (Heartbeat time) = true
not_reserved (Queue track priority earliest latest) = true
not_reserved (Suggest track weight) = true
not_reserved (Remove item) = true
not_reserved (State state) = true
not_reserved (Seek milliseconds) = true
not_reserved (Rate percent) = true
not_reserved Next = true
not_reserved Previous = true
not_reserved (Text target mode text) = true
not_reserved (Reserved kind) = false

-- any track is a number in the catalog
abbrev pub tracks_listed : List ℕ → Request → Bool
tracks_listed catalog (Heartbeat time) = true
tracks_listed catalog (Queue track priority earliest latest) = track_listed catalog track
tracks_listed catalog (Suggest track weight) = track_listed catalog track
tracks_listed catalog (Remove item) = true
tracks_listed catalog (State state) = true
tracks_listed catalog (Seek milliseconds) = true
tracks_listed catalog (Rate percent) = true
tracks_listed catalog Next = true
tracks_listed catalog Previous = true
tracks_listed catalog (Text target mode text) = true
tracks_listed catalog (Reserved kind) = true

-- the type is 0
abbrev pub is_heartbeat : Request → Bool
is_heartbeat (Heartbeat time) = true
is_heartbeat (Queue track priority earliest latest) = false
is_heartbeat (Suggest track weight) = false
is_heartbeat (Remove item) = false
is_heartbeat (State state) = false
is_heartbeat (Seek milliseconds) = false
is_heartbeat (Rate percent) = false
is_heartbeat Next = false
is_heartbeat Previous = false
is_heartbeat (Text target mode text) = false
is_heartbeat (Reserved kind) = false

-- the type is neither 30 nor 31, any track is a number in the catalog, and suspect is no or the type is 0
abbrev pub may_release : List ℕ → Bool → Request → Bool
may_release catalog suspect request = not_reserved request && (tracks_listed catalog request && (not suspect || is_heartbeat request))

-- the number of a track that has one
abbrev pub track_number : Track → Option ℕ
track_number (Number n) = Some n
track_number (Octets s) = None

-- the command of a request: its own arguments, where they are numbers
abbrev pub command_of : Request → Option Command
command_of (Heartbeat time) = Some (commands.Heartbeat time)
command_of (Queue track priority earliest latest) = bind (track_number track) (λ n. Some (commands.Queue n priority earliest latest))
command_of (Suggest track weight) = bind (track_number track) (λ n. Some (commands.Suggest n weight))
command_of (Remove item) = Some (commands.Remove item)
command_of (State state) = Some (commands.State state)
command_of (Seek milliseconds) = Some (commands.Seek milliseconds)
command_of (Rate percent) = Some (commands.Rate percent)
command_of Next = Some commands.Next
command_of Previous = Some commands.Previous
command_of (Text target mode text) = Some (commands.Text target mode text)
command_of (Reserved kind) = None

-- the command that is released
unfoldable pub allowed : List ℕ → Bool → Request → Option Command
allowed catalog suspect request = cond (may_release catalog suspect request) (command_of request) None

-- that part of the octets; nothing if it lies outside
abbrev pub part_of : List ℕ → Span → List ℕ
part_of os s = cond (nat_le (s.start + s.len) (length os)) (part os s.start s.len) []

-- the text of a command
unfoldable pub command_text : List ℕ → Command → List ℕ
command_text os (commands.Heartbeat time) = []
command_text os (commands.Queue track priority earliest latest) = []
command_text os (commands.Suggest track weight) = []
command_text os (commands.Remove item) = []
command_text os (commands.State state) = []
command_text os (commands.Seek milliseconds) = []
command_text os (commands.Rate percent) = []
command_text os commands.Next = []
command_text os commands.Previous = []
command_text os (commands.Text target mode text) = part_of os text
