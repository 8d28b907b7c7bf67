-- What a raise leaves of an image that holds a journal.
use Rattle.std.specs.Prelude.{◌≡◌, ℕ, Bool, true, List}
use Rattle.marks.specs.declared.mark.Pair.{Pair}
use Rattle.marks.specs.declared.mark.Mark.{Mark}
use Rattle.marks.specs.declared.mark.CutLeaves.{CutLeaves}
use Rattle.marks.specs.declared.mark.Raised.{Raised}
use Rattle.marks.specs.declared.mark.Raised.TheVariants.{Off, Low, Full, Cut, Done}
use Rattle.marks.specs.Device.{device_of}
use Rattle.marks.specs.State.{State, Raises}
use Rattle.marks.specs.Octets.{cells_in, OneCell, AfterWrite}
use Rattle.journal.specs.Floors.{on_floor}
use Rattle.journal.specs.Journals.{state_in}

-- what a journal in an image under a floor means
abbrev pub image_state : ℕ → List ℕ → Bool → ℕ → State
image_state f m on n = on_floor f (state_in (device_of (cells_in m) on n))

-- a raise that is not written leaves every octet; any other touches one cell at most, as a write or its cut leaves it
pub record Touched (v : CutLeaves) (m m' : List ℕ) : Type 0 where
  pub octets : OneCell m m'
  pub written : AfterWrite v m m'

abbrev pub ImageMoves : CutLeaves → Raised → List ℕ → List ℕ → Type 0
ImageMoves v Off m m' = m' ≡ m
ImageMoves v Low m m' = m' ≡ m
ImageMoves v Full m m' = m' ≡ m
ImageMoves v Cut m m' = Touched v m m'
ImageMoves v Done m m' = Touched v m m'

-- what a raise of p to m with power on and charge n answers and leaves
pub record RaisedImage (f n : ℕ) (v : CutLeaves) (p : Pair) (new : Mark) (w : Raised) (m m' : List ℕ) : Type 0 where
  pub power : Bool
  pub charge : ℕ
  pub meaning : Raises (image_state f m true n) p new w (image_state f m' power charge)
  pub memory : ImageMoves v w m m'
