-- What the lines of a script leave as it was.
use Rattle.std.specs.Prelude.{◌≡◌, Ok, Err, Result}

-- a line that cannot be read changes nothing
abbrev pub KeptUnread : {A E S : Type 0} → Result A E → S → S → Type 0
KeptUnread (Ok answer) s t = Unit {0}
KeptUnread (Err what) s t = t ≡ s
