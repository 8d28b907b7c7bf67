-- The octets that are signed.
use Rattle.std.specs.Prelude.{ℕ, List, ◌∷◌, ◌++◌}
use Rattle.verdicts.specs.declared.transcript.Transcript.{Transcript}

-- a transcript's pieces, one behind the other
abbrev pub octets_of : Transcript → List ℕ
octets_of t = t.before.now ++ (t.head ∷ (t.middle.now ++ t.after.now))
