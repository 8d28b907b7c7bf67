-- What each command type is answered by.
use Rattle.std.proofs.Common.{◌≡◌, Bool, true, false, cond, Some, None, refl}
use Rattle.items.specs.declared.types.Span.{Span}
use Rattle.commands.specs.declared.types.Track.{Track}
use Rattle.commands.specs.Orders.{Order}
use Rattle.commands.specs.Octets.{request_of, requested}

-- a request without arguments
pub bare-is : (b : Bool) (order : Order Track Span) → cond b (Some (request_of order)) None ≡ requested (cond b (Some order) None)
bare-is true order = refl
bare-is false order = refl
