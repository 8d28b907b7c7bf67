-- What the definition of the tag sheet comes to.
use Rattle.std.specs.Prelude.{◌≡◌, ℕ, true, List, length}
use Rattle.verdicts.specs.Tags.{is_tagged}

-- a signature that a tag sheet calls good has 16 octets
abbrev pub TagsHave16Octets : Type 0
TagsHave16Octets = (sheet kid : List ℕ) (alg : ℕ) (transcript signature : List ℕ) → is_tagged sheet kid alg transcript signature ≡ true → length signature ≡ 16
