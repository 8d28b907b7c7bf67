-- The calls' arguments and answers as numbers.
use Rattle.std.specs.Prelude.{◌≡◌, ℕ, List, Some, None, Option}
use Rattle.marks.specs.declared.mark.Pair.{Pair}
use Rattle.marks.specs.declared.mark.Mark.{Mark}
use Rattle.marks.specs.declared.mark.CutLeaves.TheVariants.{Torn}
use Rattle.marks.specs.declared.mark.Raised.{Raised}
use Rattle.marks.specs.declared.mark.Raised.TheVariants.{Off, Low, Full, Cut, Done}
use Rattle.journal_laws.specs.Images.{RaisedImage}
use Rattle.timings.specs.declared.answer.FoundMark.{FoundMark}

-- a pair of its two ids
abbrev pub pair_of : List ℕ → List ℕ → Pair
pair_of sid kid = record { sid = sid; kid = kid }

-- a mark of its position and hash
abbrev pub mark_of : ℕ → ℕ → List ℕ → Mark
mark_of epoch counter hash = record { position = record { epoch = epoch; counter = counter }; hash = hash }

-- how a raise ended
abbrev pub raised_as : Raised → ℕ
raised_as Off = 0
raised_as Low = 1
raised_as Full = 2
raised_as Cut = 3
raised_as Done = 4

-- the number of a raise of p to new under a floor, with so much charge, and what it leaves of the image
pub record RaiseTold (r floor charge : ℕ) (p : Pair) (new : Mark) (m m' : List ℕ) : Type 0 where
  pub answer : Raised
  pub number : r ≡ raised_as answer
  pub image : RaisedImage floor charge Torn p new answer m m'

-- a mark, if there is one
abbrev pub found_as : Option Mark → FoundMark
found_as None = record { found = 0; epoch = 0; counter = 0 }
found_as (Some m) = record { found = 1; epoch = m.position.epoch; counter = m.position.counter }

-- the hash of a mark, or else what stood there
abbrev pub hash_or : List ℕ → Option Mark → List ℕ
hash_or old None = old
hash_or old (Some m) = m.hash
