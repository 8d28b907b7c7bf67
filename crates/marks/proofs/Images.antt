-- Cells in octets.
use Rattle.std.proofs.Common.{◌≡◌, ℕ, zero, suc, ◌+◌, ◌-◌, ◌*◌, ◌/◌, ◌^◌, ◌<◌, ◌≤◌, cond, eqb, ◌≢◌, ◌⊎◌, List, ◌++◌, length, get_or, take, drop, set, Some, None, Option, sym, refl, ap, ◌∙◌, subst, inl, inr, ⊎_elim, arith, MatchOption, Bor}
use Rattle.std.proofs.lemmas.Nat.{from_be_bytes-to_be_bytes_8}
use borrow.Rule.Slice.PartMut.{put_mid}
use Rattle.std.proofs.lemmas.Slice.{take-put_mid_below, drop-put_mid, between_is, between-put_mid}
use Rattle.std.proofs.lemmas.List.FromFn.{length-map-range_with_len, get_or-map-range_with_len}
use Rattle.std.proofs.lemmas.List.{length-set, length-append, take_at, drop_at, take_all, same_lists, get_or-set_same, get_or-set_other, get_or_append_left, get_or-append_right, get_or_past, get_or-take, get_or-drop, take-set-le, drop-set-lt, drop-drop, length-take, length-drop}
use Rattle.std.specs.Simd.{first_chunks}
use Rattle.std.specs.Slice.{IsItemAt}
use Rattle.std.proofs.lemmas.Bool.{cases_eq, cases_order}
use Rattle.marks.specs.declared.mark.Cell.{Cell}
use Rattle.marks.specs.declared.mark.Cell.TheVariants.{Blank, Torn, Held}
use Rattle.marks.specs.declared.mark.Record.{Record}
use Rattle.marks.specs.Octets.{octets8, number8, encoded, record_in, cell_of, cells_in, put_cell, OneCell, Sized, StoredOctets, TornOctets}

pub number8-octets : (n : ℕ) → n < 2 ^ 64 → number8 (octets8 n) ≡ n
number8-octets n h = from_be_bytes-to_be_bytes_8 n h

pub cells-length : (m : List ℕ) → length (cells_in m) ≡ length m / 81
cells-length m = length-map-range_with_len _ 0 (length m / 81)

pub cells_at : (m : List ℕ) (i : ℕ) (d : Cell) → i < length m / 81 → get_or (cells_in m) i d ≡ cell_of (take 81 (drop (i * 81) m))
cells_at m i d h = get_or-map-range_with_len (λ i. cell_of (take 81 (drop (i * 81) m))) 0 (length m / 81) i i d h (omega arith)

pub chunk_at : (k i : ℕ) (m d : List ℕ) → i < k → get_or (first_chunks 81 k m) i d ≡ take 81 (drop (i * 81) m)
chunk_at zero i m d h = absurd (omega arith)
chunk_at (suc k) zero m d h = refl
chunk_at (suc k) (suc i) m d h =
    let n : 81 + i * 81 ≡ suc i * 81 = omega arith in
    chunk_at k i (drop 81 m) d (omega arith) ∙ ap (λ x. take 81 x) (drop-drop (i * 81) 81 m ∙ ap (λ x. drop x m) n)

-- what a look at cell i gives
pub cell_got : (m : List ℕ) (i : ℕ) (xs : List (List ℕ)) (o : Option (Bor (List ℕ))) (c : Cell) → xs ≡ first_chunks 81 (length m / 81) m → length xs ≡ length m / 81 → IsItemAt xs i o → MatchOption o (c ≡ Torn) (λ b. c ≡ cell_of b.now) → c ≡ get_or (cells_in m) i Torn
cell_got m i xs None c e l g f =
    let h : length (cells_in m) ≤ i = omega (arith, cells-length m, g.3) in
    f ∙ sym (get_or_past (cells_in m) i Torn h)
cell_got m i xs (Some b) c e l g f =
    let h : i < length m / 81 = omega (arith, g.3.0) in
    f ∙ ap cell_of (g.1 ∙ ap (λ x. get_or x i b.now) e ∙ chunk_at (length m / 81) i m b.now h) ∙ sym (cells_at m i Torn h)

abbrev made : List ℕ → List ℕ → ℕ → ℕ → List ℕ → Record
made s k e n h = record { pair = record { sid = s; kid = k }; mark = record { position = record { epoch = e; counter = n }; hash = h } }

made-same : {s k h s' k' h' : List ℕ} {e n e' n' : ℕ} → s ≡ s' → k ≡ k' → e ≡ e' → n ≡ n' → h ≡ h' → made s k e n h ≡ made s' k' e' n' h'
made-same a b c d e = cc

module _ (r : Record) (z : Sized r) where
  whole : List ℕ
  whole = encoded r

  d17 : drop 17 (encoded r) ≡ r.pair.kid ++ (octets8 r.mark.position.epoch ++ (octets8 r.mark.position.counter ++ r.mark.hash))
  d17 = drop_at r.pair.sid _ 16 z.sid

  d33 : drop 33 (encoded r) ≡ octets8 r.mark.position.epoch ++ (octets8 r.mark.position.counter ++ r.mark.hash)
  d33 = sym (drop-drop 16 17 (encoded r)) ∙ ap (λ x. drop 16 x) d17 ∙ drop_at r.pair.kid _ 16 z.kid

  d41 : drop 41 (encoded r) ≡ octets8 r.mark.position.counter ++ r.mark.hash
  d41 = sym (drop-drop 8 33 (encoded r)) ∙ ap (λ x. drop 8 x) d33 ∙ drop_at (octets8 r.mark.position.epoch) _ 8 refl

  d49 : drop 49 (encoded r) ≡ r.mark.hash
  d49 = sym (drop-drop 8 41 (encoded r)) ∙ ap (λ x. drop 8 x) d41 ∙ drop_at (octets8 r.mark.position.counter) _ 8 refl

  long : length (encoded r) ≡ 81
  long = simp length-append (omega (arith, z.sid, z.kid, z.hash))

  -- octet k of the part that begins at a
  part : (a k : ℕ) (xs ys : List ℕ) → drop a (encoded r) ≡ xs ++ ys → k < length xs → get_or (encoded r) (a + k) 0 ≡ get_or xs k 0
  part a k xs ys e h = sym (get_or-drop a (encoded r) k 0) ∙ ap (λ x. get_or x k 0) e ∙ get_or_append_left xs ys 0 k h

  module _ (m : List ℕ) (i : ℕ) (whole : i < length m / 81) where
    at : (j k : ℕ) → j ≡ i * 81 + k → k < 81 → get_or (put_cell i (encoded r) m) j 0 ≡ get_or (encoded r) k 0
    at j k e h =
        let la : i * 81 ≤ length m = omega arith in
        let lt : length (take (i * 81) m) ≡ i * 81 = simp length-take (omega arith) in
        let le : i * 81 ≤ j = omega arith in
        let jk : j - i * 81 ≡ k = omega arith in
        let ke : k < length (encoded r) = omega (arith, long) in
        get_or-append_right (take (i * 81) m) (encoded r ++ drop 81 (drop (i * 81) m)) (i * 81) j 0 lt le
        ∙ ap (λ x. get_or (encoded r ++ drop 81 (drop (i * 81) m)) x 0) jk ∙ get_or_append_left (encoded r) _ 0 k ke

    pub stored : StoredOctets (put_cell i (encoded r) m) i r
    stored = record {
      state = at (i * 81) 0 (omega arith) (omega arith);
      sid = λ k h. at _ (1 + k) (omega arith) (omega arith) ∙ part 1 k r.pair.sid _ refl (omega (arith, z.sid));
      kid = λ k h. at _ (17 + k) (omega arith) (omega arith) ∙ part 17 k r.pair.kid _ d17 (omega (arith, z.kid));
      epoch = λ k h. at _ (33 + k) (omega arith) (omega arith) ∙ part 33 k (octets8 r.mark.position.epoch) _ d33 h;
      counter = λ k h. at _ (41 + k) (omega arith) (omega arith) ∙ part 41 k (octets8 r.mark.position.counter) _ d41 h;
      hash = λ k h. at _ (49 + k) (omega arith) (omega arith) ∙ sym (get_or-drop 49 (encoded r) k 0) ∙ ap (λ x. get_or x k 0) d49;
    }

  pub cell-encoded : cell_of (encoded r) ≡ Held r
  cell-encoded =
      ap Held
      (made-same
      (take_at r.pair.sid _ 16 z.sid)
      (ap (λ x. take 16 x) d17 ∙ take_at r.pair.kid _ 16 z.kid)
      (ap (λ x. number8 (take 8 x)) d33 ∙ number8-octets _ z.epoch)
      (ap (λ x. number8 (take 8 x)) d41 ∙ number8-octets _ z.counter)
      (ap (λ x. take 32 x) d49 ∙ take_all 32 _ (omega (arith, z.hash))))

-- an image of which the part of one cell is changed
module _ (m m' : List ℕ) (i : ℕ) (c : Cell) (h : i < length m / 81) (l : length m' ≡ length m) where
  pub cells_change : ((j : ℕ) → j < length m / 81 → j ≢ i → take 81 (drop (j * 81) m') ≡ take 81 (drop (j * 81) m)) → cell_of (take 81 (drop (i * 81) m')) ≡ c → cells_in m' ≡ set (cells_in m) i c
  cells_change others here =
      let n : length m' / 81 ≡ length m / 81 = ap (λ x. x / 81) l in
      let long : i < length (cells_in m) = omega (arith, cells-length m) in
      same_lists (cells_in m') (set (cells_in m) i c)
      (cells-length m' ∙ n ∙ sym (length-set (cells_in m) i c ∙ cells-length m))
      (λ j d g.
      let j< : j < length m / 81 = omega (arith, cells-length m', n) in
      let j<' : j < length m' / 81 = omega (arith, n) in
      let i<' : i < length m' / 81 = omega (arith, n) in
      ⊎_elim
      (λ e. subst (λ x. get_or (cells_in m') x d ≡ get_or (set (cells_in m) i c) x d) (sym e) (cells_at m' i d i<' ∙ here ∙ sym (get_or-set_same (cells_in m) i c d long)))
      (λ ne. cells_at m' j d j<' ∙ ap cell_of (others j j< ne) ∙ sym (cells_at m j d j<) ∙ sym (get_or-set_other (cells_in m) i j c d ne))
      (cases_eq j i))

-- a cell that lies below or above the part that is written
apart : (i j : ℕ) → j ≢ i → (j * 81 + 81 ≤ i * 81) ⊎ (i * 81 + 81 ≤ j * 81)
apart i j ne = ⊎_elim (λ e. absurd (ne e)) (⊎_elim (λ h. inl (omega arith)) (λ h. inr (omega arith))) (cases_order j i)

part-is : (m : List ℕ) (a : ℕ) → take 81 (drop a m) ≡ drop a (take (a + 81) m)
part-is m a = let e : 81 ≡ a + 81 - a = omega arith in ap (λ k. take k (drop a m)) e ∙ between_is m a (a + 81)

pub cells-put : (m ys : List ℕ) (i k : ℕ) (c : Cell) → i < length m / 81 → k ≡ 81 → length ys ≡ 81 → cell_of ys ≡ c → cells_in (put_mid (i * 81) k m ys) ≡ set (cells_in m) i c
cells-put m ys i k c h ke l e =
    let la : i * 81 ≤ length m = omega arith in
    let lk : length ys ≡ k = omega arith in
    let m' = put_mid (i * 81) k m ys in
    cells_change m m' i c h
    (simp (length-append, length-take, length-drop) (omega arith))
    (λ j j< ne.
    ⊎_elim
    (λ b. part-is m' (j * 81) ∙ ap (λ x. drop (j * 81) x) (take-put_mid_below (i * 81) k m ys (j * 81 + 81) b la) ∙ sym (part-is m (j * 81)))
    (λ b. let b' : i * 81 + k ≤ j * 81 = omega arith in ap (λ x. take 81 x) (drop-put_mid (i * 81) k m ys (j * 81) b' la lk))
    (apart i j ne))
    (let w : 81 ≡ i * 81 + 81 - i * 81 = omega arith in ap cell_of (ap (λ q. take q (drop (i * 81) m')) w ∙ between-put_mid (i * 81) k m ys (i * 81 + 81) la (omega arith)) ∙ e)

pub cells-torn : (m : List ℕ) (i : ℕ) → i < length m / 81 → cells_in (set m (i * 81) 255) ≡ set (cells_in m) i Torn
cells-torn m i h =
    let la : i * 81 < length m = omega arith in
    let m' = set m (i * 81) 255 in
    cells_change m m' i Torn h
    (length-set m (i * 81) 255)
    (λ j j< ne.
    ⊎_elim
    (λ b. part-is m' (j * 81) ∙ ap (λ x. drop (j * 81) x) (take-set-le (j * 81 + 81) m (i * 81) 255 b) ∙ sym (part-is m (j * 81)))
    (λ b. let b' : i * 81 < j * 81 = omega arith in ap (λ x. take 81 x) (drop-set-lt (j * 81) m (i * 81) 255 b'))
    (apart i j ne))
    (let w : i * 81 + 0 ≡ i * 81 = omega arith in
    let s : get_or (take 81 (drop (i * 81) m')) 0 0 ≡ 255 = get_or-take 81 (drop (i * 81) m') 0 0 (omega arith) ∙ get_or-drop (i * 81) m' 0 0 ∙ ap (λ x. get_or m' x 0) w ∙ get_or-set_same m (i * 81) 255 0 la in
    ap (λ x. cond (eqb x 0) Blank (cond (eqb x 1) (Held (record_in (take 81 (drop (i * 81) m')))) Torn)) s)

pub put_cell_lem : (m : List ℕ) (i : ℕ) {ys zs : List ℕ} (k : ℕ) → k ≡ 81 → ys ≡ zs → put_mid (i * 81) k m ys ≡ put_cell i zs m
put_cell_lem m i k e f = cc

-- an octet by what lies before or behind it
below-same : (m m' : List ℕ) (a : ℕ) → take a m' ≡ take a m → (j : ℕ) → j < a → get_or m' j 0 ≡ get_or m j 0
below-same m m' a e j h = sym (get_or-take a m' j 0 h) ∙ ap (λ x. get_or x j 0) e ∙ get_or-take a m j 0 h

behind-same : (m m' : List ℕ) (a : ℕ) → drop a m' ≡ drop a m → (j : ℕ) → a ≤ j → get_or m' j 0 ≡ get_or m j 0
behind-same m m' a e j h =
    let k : a + (j - a) ≡ j = omega arith in
    sym (ap (λ x. get_or m' x 0) k) ∙ sym (get_or-drop a m' (j - a) 0) ∙ ap (λ x. get_or x (j - a) 0) e ∙ get_or-drop a m (j - a) 0 ∙ ap (λ x. get_or m x 0) k

pub one-put : (m ys : List ℕ) (i k : ℕ) → i < length m / 81 → k ≡ 81 → length ys ≡ 81 → OneCell m (put_mid (i * 81) k m ys)
one-put m ys i k h ke l =
    let la : i * 81 ≤ length m = omega arith in
    let lk : length ys ≡ k = omega arith in
    let end : i * 81 + k ≤ i * 81 + 81 = omega arith in
    record {
      long = simp (length-append, length-take, length-drop) (omega arith);
      cell = i;
      whole = omega arith;
      others = λ j o. ⊎_elim
          (λ b. below-same m _ (i * 81) (take-put_mid_below (i * 81) k m ys (i * 81) (omega arith) la) j b)
          (λ b. behind-same m _ (i * 81 + 81) (drop-put_mid (i * 81) k m ys (i * 81 + 81) end la lk) j b) o;
    }

pub one-torn : (m : List ℕ) (i : ℕ) → i < length m / 81 → OneCell m (set m (i * 81) 255)
one-torn m i h =
    record {
      long = length-set m (i * 81) 255;
      cell = i;
      whole = omega arith;
      others = λ j o. get_or-set_other m (i * 81) j 255 0 (λ e. ⊎_elim (λ b. omega arith) (λ b. omega arith) o);
    }

pub one_same : (m : List ℕ) (i : ℕ) → i < length m / 81 → OneCell m m
one_same m i h = record { long = refl; cell = i; whole = omega arith; others = λ j o. refl }

pub torn : (m : List ℕ) (i : ℕ) → i < length m / 81 → TornOctets m i (set m (i * 81) 255)
torn m i h =
    let la : i * 81 < length m = omega arith in
    record { state = get_or-set_same m (i * 81) 255 0 la; rest = λ j ne. get_or-set_other m (i * 81) j 255 0 ne }
