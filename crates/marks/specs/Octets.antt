-- How a cell lies in 81 octets, and a list of cells in an image.
use Rattle.std.specs.Prelude.{◌≡◌, ℕ, ◌+◌, ◌*◌, ◌/◌, ◌%◌, ◌^◌, ◌<◌, ◌≤◌, cond, ◌⊎◌, List, [], ◌∷◌, ◌++◌, map, length, take, drop, ◌==◌, ◌≢◌, slice_index, slice_set}
use Rattle.std.specs.Borrow.{MutBor}
use Rattle.std.specs.List.{range_with_len}
use Rattle.marks.specs.declared.mark.Cell.{Cell}
use Rattle.marks.specs.declared.mark.Cell.TheVariants.{Blank, Torn, Held}
use Rattle.marks.specs.declared.mark.Record.{Record}
use Rattle.marks.specs.declared.mark.CutLeaves.{CutLeaves}
use Rattle.marks.specs.declared.mark.CutLeaves.TheVariants.{Old, New, Torn as Tears}
use Rattle.marks.specs.declared.power.Power.{Power}
use Rattle.marks.specs.declared.mark.Written.{Written}
use Rattle.marks.specs.declared.mark.Written.TheVariants.{Off, Outside, Cut, Done}

-- a number in eight octets, the highest first
abbrev pub octets8 : ℕ → List ℕ
octets8 n =
    (n / 256 ^ 7 % 256) ∷ (n / 256 ^ 6 % 256) ∷ (n / 256 ^ 5 % 256) ∷ (n / 256 ^ 4 % 256)
    ∷ (n / 256 ^ 3 % 256) ∷ (n / 256 ^ 2 % 256) ∷ (n / 256 % 256) ∷ (n % 256) ∷ []

-- the number that eight octets write
abbrev pub number8 : List ℕ → ℕ
number8 b =
    slice_index b 0 * 256 ^ 7 + slice_index b 1 * 256 ^ 6 + slice_index b 2 * 256 ^ 5 + slice_index b 3 * 256 ^ 4
    + slice_index b 4 * 256 ^ 3 + slice_index b 5 * 256 ^ 2 + slice_index b 6 * 256 + slice_index b 7

-- a record's 81 octets: state 01, sid, kid, epoch, counter, hash
abbrev pub encoded : Record → List ℕ
encoded r =
    1 ∷ (r.pair.sid ++ (r.pair.kid ++ (octets8 r.mark.position.epoch ++ (octets8 r.mark.position.counter ++ r.mark.hash))))

-- the parts of a record have the sizes of their types
pub record Sized (r : Record) : Type 0 where
  pub sid : length r.pair.sid ≡ 16
  pub kid : length r.pair.kid ≡ 16
  pub hash : length r.mark.hash ≡ 32
  pub epoch : r.mark.position.epoch < 2 ^ 64
  pub counter : r.mark.position.counter < 2 ^ 64

-- the record that lies behind the state
abbrev pub record_in : List ℕ → Record
record_in b = record {
  pair = record { sid = take 16 (drop 1 b); kid = take 16 (drop 17 b) };
  mark = record {
    position = record { epoch = number8 (take 8 (drop 33 b)); counter = number8 (take 8 (drop 41 b)) };
    hash = take 32 (drop 49 b);
  };
}

-- the cell that 81 octets are: blank at state 00, a record at 01, torn at any other, whatever lies behind
abbrev pub cell_of : List ℕ → Cell
cell_of b = cond (slice_index b 0 == 0) Blank (cond (slice_index b 0 == 1) (Held (record_in b)) Torn)

-- the octets of cell i
abbrev pub octets_at : ℕ → List ℕ → List ℕ
octets_at i m = take 81 (drop (i * 81) m)

-- the whole cells of an image
abbrev pub cells_in : List ℕ → List Cell
cells_in m = map (λ i. cell_of (octets_at i m)) (range_with_len 0 (length m / 81))

-- the image with the octets of cell i replaced
abbrev pub put_cell : ℕ → List ℕ → List ℕ → List ℕ
put_cell i ys m = take (i * 81) m ++ (ys ++ drop 81 (drop (i * 81) m))

-- the image after a cut in a write of r to cell i: old, new, or its state FF and no more
abbrev pub image_cut : CutLeaves → ℕ → Record → List ℕ → List ℕ
image_cut Old i r m = m
image_cut New i r m = put_cell i (encoded r) m
image_cut Tears i r m = slice_set m (i * 81) 255

-- the image after a write of r to cell i, by its answer and by what a cut leaves
abbrev pub image_after : Written → CutLeaves → ℕ → Record → List ℕ → List ℕ
image_after Off v i r m = m
image_after Outside v i r m = m
image_after Cut v i r m = image_cut v i r m
image_after Done v i r m = put_cell i (encoded r) m

-- octet by octet, cell i of an image holds the record r
pub record StoredOctets (m : List ℕ) (i : ℕ) (r : Record) : Type 0 where
  pub state : slice_index m (i * 81) ≡ 1
  pub sid : (k : ℕ) → k < 16 → slice_index m (i * 81 + 1 + k) ≡ slice_index r.pair.sid k
  pub kid : (k : ℕ) → k < 16 → slice_index m (i * 81 + 17 + k) ≡ slice_index r.pair.kid k
  pub epoch : (k : ℕ) → k < 8 → slice_index m (i * 81 + 33 + k) ≡ slice_index (octets8 r.mark.position.epoch) k
  pub counter : (k : ℕ) → k < 8 → slice_index m (i * 81 + 41 + k) ≡ slice_index (octets8 r.mark.position.counter) k
  pub hash : (k : ℕ) → k < 32 → slice_index m (i * 81 + 49 + k) ≡ slice_index r.mark.hash k

-- octet by octet, cell i is torn: its state is FF, and every other octet of the image is as it was
pub record TornOctets (m : List ℕ) (i : ℕ) (m' : List ℕ) : Type 0 where
  pub state : slice_index m' (i * 81) ≡ 255
  pub rest : (j : ℕ) → (j ≢ i * 81) → slice_index m' j ≡ slice_index m j

-- each octet after a cut in a write of r to cell i
abbrev pub EachCut : CutLeaves → ℕ → Record → List ℕ → List ℕ → Type 0
EachCut Old i r m m' = m' ≡ m
EachCut New i r m m' = StoredOctets m' i r
EachCut Tears i r m m' = TornOctets m i m'

-- each octet after a write of r to cell i, by its answer and by what a cut leaves
abbrev pub EachOctet : Written → CutLeaves → ℕ → Record → List ℕ → List ℕ → Type 0
EachOctet Off v i r m m' = m' ≡ m
EachOctet Outside v i r m m' = m' ≡ m
EachOctet Cut v i r m m' = EachCut v i r m m'
EachOctet Done v i r m m' = StoredOctets m' i r

-- images of one length that differ in one whole cell at most
pub record OneCell (m m' : List ℕ) : Type 0 where
  pub long : length m' ≡ length m
  pub cell : ℕ
  pub whole : cell * 81 + 81 ≤ length m
  pub others : (j : ℕ) → (j < cell * 81) ⊎ (cell * 81 + 81 ≤ j) → slice_index m' j ≡ slice_index m j

-- the image after some write
pub record AfterWrite (v : CutLeaves) (m m' : List ℕ) : Type 0 where
  pub answer : Written
  pub cell : ℕ
  pub new : Record
  pub after : m' ≡ image_after answer v cell new m

-- the same lender's image, touched in one cell at most, as a write or its cut leaves it
pub record ImageTouched (a : MutBor (List ℕ)) (p : Power) (b : MutBor (List ℕ)) (q : Power) : Type 0 where
  pub lender : b.ghost_name ≡ a.ghost_name
  pub leaves : q.leaves ≡ p.leaves
  pub octets : OneCell a.now b.now
  pub written : AfterWrite p.leaves a.now b.now

-- the same lender's image, as it was
pub record ImageKept (a : MutBor (List ℕ)) (p : Power) (b : MutBor (List ℕ)) (q : Power) : Type 0 where
  pub lender : b.ghost_name ≡ a.ghost_name
  pub leaves : q.leaves ≡ p.leaves
  pub octets : b.now ≡ a.now
