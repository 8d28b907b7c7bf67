-- The residue: a message with its FCS leaves it, and nothing else does.
use Rattle.std.proofs.Common.{◌≡◌, ℕ, zero, suc, ◌+◌, ◌-◌, ◌*◌, ◌/◌, ◌%◌, ◌^◌, ◌<◌, ◌≤◌, cond, eqb, leb, List, [], ◌∷◌, ◌++◌, length, fold, sym, refl, ap, ◌∙◌, arith, lit<}
use lib.Bits.{bit_xor, xor_lt, xor_block, xor_zero_r, xor_self, xor_assoc, xor_comm, xor_shr, xor_mod}
use Rattle.std.proofs.lemmas.Bool.{cond_both, cond-true, cond-false, eqb-true, eqb-false, le-leb, lt-leb}
use Rattle.line.specs.Fcs.{shift, shifts, step, register, tail, residue}
use Rattle.line_laws.proofs.Tables.{each}
use Rattle.line_laws.specs.Passing.{Octets, Checking}

shift_lt : (r : ℕ) → r < 65536 → shift r < 65536
unfolding shift
shift_lt r h =
    let half : r / 2 < 2 ^ 16 = omega arith in
    cond_both (eqb (r % 2) 1) (bit_xor (r / 2) 0x8408) (r / 2) (λ x. x < 65536) (λ e. xor_lt 16 (r / 2) 0x8408 half (lit< tt)) (λ e. half)

shifts_lt : (n r : ℕ) → r < 65536 → shifts n r < 65536
unfolding shifts
shifts_lt zero r h = h
shifts_lt (suc n) r h = shift_lt (shifts n r) (shifts_lt n r h)

step_lt : (r o : ℕ) → r < 65536 → o < 256 → step r o < 65536
unfolding step
step_lt r o h k = let l : o < 2 ^ 16 = omega arith in shifts_lt 8 (bit_xor r o) (xor_lt 16 r o h l)

folded_lt : (m : List ℕ) (r : ℕ) → r < 65536 → Octets m → fold step r m < 65536
folded_lt [] r h a = h
folded_lt (o ∷ m) r h a = folded_lt m (step r o) (step_lt r o h a.0) a.1

register_lt : (m : List ℕ) → Octets m → register m < 65536
unfolding register
register_lt m a = folded_lt m 65535 (lit< tt) a

-- two tests of 256 cases each
ones-by : (l : ℕ) → l < 256 → bit_xor l (255 - l) ≡ 255
ones-by l h = eqb-true _ _ (each (λ k. eqb (bit_xor k (255 - k)) 255) 256 refl l h)

ends_by : (h : ℕ) → h < 256 → step (shifts 8 (h * 256 + 255)) (255 - h) ≡ residue
unfolding step shifts shift
ends_by h l = eqb-true _ _ (each (λ k. eqb (step (shifts 8 (k * 256 + 255)) (255 - k)) 0xF0B8) 256 refl h l)

low_cancels : (r : ℕ) → bit_xor r (255 - r % 256) ≡ r / 256 * 256 + 255
low_cancels r =
    let l : r % 256 < 256 = omega arith in
    let k : 255 - r % 256 < 256 = omega arith in
    let b = xor_block 8 (r / 256) 0 (r % 256) (255 - r % 256) l k in
    let e : r / 256 * 256 + r % 256 ≡ r = omega arith in
    let z = xor_zero_r (r / 256) in
    let o = ones-by (r % 256) l in
    let y : 0 * 2 ^ 8 + (255 - r % 256) ≡ 255 - r % 256 = omega arith in
    cc

two-more : (r : ℕ) → r < 65536 → step (step r ((65535 - r) % 256)) ((65535 - r) / 256) ≡ residue
unfolding step
two-more r h =
    let lo : (65535 - r) % 256 ≡ 255 - r % 256 = omega arith in
    let hi : (65535 - r) / 256 ≡ 255 - r / 256 = omega arith in
    let c = low_cancels r in
    let e = ends_by (r / 256) (omega arith) in
    rw (lo, hi, c) e

folded_append : (f : ℕ → ℕ → ℕ) (m : List ℕ) (r : ℕ) (n : List ℕ) → fold f r (m ++ n) ≡ fold f (fold f r m) n
folded_append f [] r n = refl
folded_append f (o ∷ m) r n = folded_append f m (f r o) n

pub residue-left : (m : List ℕ) → Octets m → register (m ++ tail m) ≡ residue
unfolding register tail
residue-left m a = folded_append step m 65535 (tail m) ∙ two-more (register m) (register_lt m a)

-- the shift's way back: the highest bit tells whether a 1 fell out
unfoldable unshift : ℕ → ℕ
unshift s = cond (leb 32768 s) (2 * bit_xor s 0x8408 + 1) (2 * s)

unfoldable unshifts : ℕ → ℕ → ℕ
unshifts zero s = s
unshifts (suc n) s = unshifts n (unshift s)

xor_twice : (a m : ℕ) → bit_xor (bit_xor a m) m ≡ a
xor_twice a m = xor_assoc a m m ∙ ap (bit_xor a) (xor_self m) ∙ xor_zero_r a

highest : (a : ℕ) → a < 32768 → 32768 ≤ bit_xor a 0x8408
highest a h =
    let b = xor_block 15 0 1 a 0x408 h (lit< tt) in
    let x : 0 * 2 ^ 15 + a ≡ a = omega arith in
    let y : bit_xor a 0x8408 ≡ bit_xor 0 1 * 2 ^ 15 + bit_xor a 0x408 = sym (ap (λ t. bit_xor t 0x8408) x) ∙ b in
    omega arith

unshift-odd : (r : ℕ) → r < 65536 → r % 2 ≡ 1 → unshift (bit_xor (r / 2) 0x8408) ≡ r
unfolding unshift
unshift-odd r h o =
    let t = xor_twice (r / 2) 0x8408 in
    cond-true _ _ _ (le-leb 32768 (bit_xor (r / 2) 0x8408) (highest (r / 2) (omega arith))) ∙ ap (λ x. 2 * x + 1) t ∙ omega arith

unshift_even : (r : ℕ) → r < 65536 → (r % 2 ≡ 1 → ⊥) → unshift (r / 2) ≡ r
unfolding unshift
unshift_even r h o = cond-false _ _ _ (lt-leb 32768 (r / 2) (omega arith)) ∙ omega arith

unshift-shift : (r : ℕ) → r < 65536 → unshift (shift r) ≡ r
unfolding shift
unshift-shift r h =
    cond_both (eqb (r % 2) 1) (bit_xor (r / 2) 0x8408) (r / 2) (λ x. unshift x ≡ r)
    (λ e. unshift-odd r h (eqb-true (r % 2) 1 e)) (λ e. unshift_even r h (eqb-false (r % 2) 1 e))

unshifts-shifts : (n r : ℕ) → r < 65536 → unshifts n (shifts n r) ≡ r
unfolding unshifts shifts
unshifts-shifts zero r h = refl
unshifts-shifts (suc n) r h = ap (unshifts n) (unshift-shift (shifts n r) (shifts_lt n r h)) ∙ unshifts-shifts n r h

-- the register before the last octet came in, that octet in it
back_one : (s y : ℕ) → s < 65536 → y < 256 → step s y ≡ residue → bit_xor s y ≡ unshifts 8 residue
unfolding step
back_one s y h k e = let l : y < 2 ^ 16 = omega arith in sym (unshifts-shifts 8 (bit_xor s y) (xor_lt 16 s y h l)) ∙ ap (unshifts 8) e

-- its high octet is known, and tells the low octet of the register one step before
last-high : unshifts 8 residue / 256 ≡ 15
unfolding unshifts unshift
last-high = refl

low_ones : (w : ℕ) → w < 256 → unshifts 8 (15 * 256 + w) % 256 ≡ 255
unfolding unshifts unshift
low_ones w h = eqb-true _ _ (each (λ k. eqb (unshifts 8 (15 * 256 + k) % 256) 255) 256 refl w h)

ones_less : (l : ℕ) → l < 256 → bit_xor l 255 ≡ 255 - l
ones_less l h = eqb-true _ _ (each (λ k. eqb (bit_xor k 255) (255 - k)) 256 refl l h)

high_of : (s y : ℕ) → s < 65536 → y < 256 → step s y ≡ residue → s / 256 ≡ 15
high_of s y h k e =
    let b = back_one s y h k e in
    let x = xor_shr s y 8 in
    let z : y / 2 ^ 8 ≡ 0 = omega arith in
    let w = xor_zero_r (s / 2 ^ 8) in
    let v : bit_xor s y / 2 ^ 8 ≡ s / 2 ^ 8 = x ∙ ap (bit_xor (s / 2 ^ 8)) z ∙ w in
    let u : bit_xor s y / 2 ^ 8 ≡ 15 = ap (λ t. t / 256) b ∙ last-high in
    sym v ∙ u

first-is : (r x y : ℕ) → r < 65536 → x < 256 → y < 256 → step (step r x) y ≡ residue → x ≡ (65535 - r) % 256
unfolding step
first-is r x y h i j e =
    let t = high_of (step r x) y (step_lt r x h i) j e in
    let l : x < 2 ^ 16 = omega arith in
    let b : bit_xor r x ≡ unshifts 8 (step r x) = sym (unshifts-shifts 8 (bit_xor r x) (xor_lt 16 r x h l)) in
    let d : step r x ≡ 15 * 256 + step r x % 256 = omega arith in
    let w : step r x % 256 < 256 = omega arith in
    let f : bit_xor r x % 2 ^ 8 ≡ 255 = ap (λ z. z % 256) (b ∙ ap (unshifts 8) d) ∙ low_ones (step r x % 256) w in
    let m : x % 2 ^ 8 ≡ x = omega arith in
    let g : bit_xor (r % 2 ^ 8) x ≡ 255 = sym (ap (bit_xor (r % 2 ^ 8)) m) ∙ sym (xor_mod r x 8) ∙ f in
    let k : x ≡ bit_xor (r % 2 ^ 8) 255 = sym (xor_twice x (r % 2 ^ 8)) ∙ ap (λ z. bit_xor z (r % 2 ^ 8)) (xor_comm x (r % 2 ^ 8) ∙ g) ∙ xor_comm 255 (r % 2 ^ 8) in
    let n : r % 2 ^ 8 < 256 = omega arith in
    let o = ones_less (r % 2 ^ 8) n in
    omega arith

last-is : (s y z : ℕ) → s < 65536 → y < 256 → z < 256 → step s y ≡ residue → step s z ≡ residue → y ≡ z
last-is s y z h i j e f =
    let a = back_one s y h i e in
    let b = back_one s z h j f in
    let c : bit_xor y s ≡ bit_xor z s = xor_comm y s ∙ a ∙ sym b ∙ xor_comm s z in
    sym (xor_twice y s) ∙ ap (λ t. bit_xor t s) c ∙ xor_twice z s

both_are : (r x y : ℕ) → r < 65536 → x < 256 → y < 256 → step (step r x) y ≡ residue → (x ≡ (65535 - r) % 256) × (y ≡ (65535 - r) / 256)
both_are r x y h i j e =
    let a = first-is r x y h i j e in
    let f : step (step r x) ((65535 - r) / 256) ≡ residue = ap (λ t. step (step r t) ((65535 - r) / 256)) a ∙ two-more r h in
    let k : (65535 - r) / 256 < 256 = omega arith in
    (a, last-is (step r x) y ((65535 - r) / 256) (step_lt r x h i) j k e f)

told-by : (m last : List ℕ) → Octets m → Octets last → length last ≡ 2 → register (m ++ last) ≡ residue → last ≡ tail m
unfolding register tail
told-by m [] a b l e = absurd (omega arith)
told-by m (x ∷ []) a b l e = absurd (omega arith)
told-by m (x ∷ y ∷ []) a b l e =
    let p = both_are (register m) x y (register_lt m a) b.0 b.1.0 (sym (folded_append step m 65535 (x ∷ y ∷ [])) ∙ e) in
    let q = p.0 in let r = p.1 in cc
told-by m (x ∷ y ∷ z ∷ zs) a b l e = absurd (omega arith)

pub checking_told : (m last : List ℕ) → Octets m → Octets last → length last ≡ 2 → Checking m last
checking_told m last a b l = record { told = told-by m last a b l; only = λ e. ap (λ t. register (m ++ t)) e ∙ residue-left m a }
