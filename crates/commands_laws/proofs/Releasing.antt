-- A command is released exactly when the request may be, and its text is handed out.
use Rattle.std.proofs.Common.{◌≡◌, ℕ, ◌+◌, ◌≤◌, Bool, true, false, cond, leb, List, length, is_some, Some, None, refl, ap, ◌∙◌, arith}
use Rattle.std.proofs.lemmas.Bool.{le-leb, cond-true}
use Rattle.items.specs.Heads.{part}
use Rattle.items_laws.proofs.Written.{at_part}
use Rattle.commands.specs.declared.types.Track.TheVariants.{Number, Octets}
use Rattle.commands.specs.declared.types.Request.{Request}
use Rattle.commands.specs.declared.types.Request.TheVariants.{Heartbeat, Queue, Suggest, Remove, State, Seek, Rate, Next, Previous, Text, Reserved}
use Rattle.commands.specs.declared.types.Command.{Command}
use Rattle.commands.specs.Release.{may_release, allowed, part_of, command_text}
use Rattle.commands_laws.specs.Laws.{HandsOut}

-- whoever may be released has a command
some_if : {X : Type 0} (b : Bool) (x : X) → is_some (cond b (Some x) None) ≡ b
some_if true x = refl
some_if false x = refl

pub exactly : (catalog : List ℕ) (suspect : Bool) (r : Request) → is_some (allowed catalog suspect r) ≡ may_release catalog suspect r
unfolding allowed
exactly catalog suspect (Heartbeat time) = some_if _ _
exactly catalog suspect (Queue (Number n) priority earliest latest) = some_if _ _
exactly catalog suspect (Queue (Octets s) priority earliest latest) = refl
exactly catalog suspect (Suggest (Number n) weight) = some_if _ _
exactly catalog suspect (Suggest (Octets s) weight) = refl
exactly catalog suspect (Remove item) = some_if _ _
exactly catalog suspect (State state) = some_if _ _
exactly catalog suspect (Seek milliseconds) = some_if _ _
exactly catalog suspect (Rate percent) = some_if _ _
exactly catalog suspect Next = some_if _ _
exactly catalog suspect Previous = some_if _ _
exactly catalog suspect (Text target mode text) = some_if _ _
exactly catalog suspect (Reserved kind) = refl

pub hands_out : (os : List ℕ) (command : Command) (r : List ℕ) → r ≡ command_text os command → HandsOut os command r
unfolding command_text
hands_out os command r is target mode s bs same spot =
    let fits : s.start + s.len ≤ length os = omega (arith, spot.there.within, spot.long) in
    let whole : part_of os s ≡ part os s.start s.len = cond-true (leb (s.start + s.len) (length os)) _ _ (le-leb _ _ fits) in
    is ∙ ap (command_text os) same ∙ whole ∙ ap (part os s.start) spot.long ∙ at_part os s.start bs spot.there
