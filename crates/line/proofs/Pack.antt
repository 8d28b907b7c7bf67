-- One more bit behind octets and a part of an octet.
use Rattle.std.proofs.Common.{◌≡◌, ℕ, zero, suc, ◌+◌, ◌*◌, ◌/◌, ◌%◌, ◌^◌, ◌<◌, ◌≤◌, Bool, true, false, cond, List, [], ◌∷◌, ◌++◌, length, take, drop, set, sym, refl, ap, ◌∙◌, append_assoc, append-nil, add-one, arith, pow_mono}
use lib.Bits.{bit_and, bit_or, and_mask, and_zero_r, or_shifted_r, or_zero_r, block_half, block_odd}
use mir.Val.{bool_byte}
use Rattle.std.proofs.lemmas.Nat.{one_shl, pow-add}
use Rattle.std.proofs.lemmas.List.{take_more_set, drop-set-lt}
use Rattle.line.specs.Bits.{odd, low, bits_of}
use Rattle.line.specs.Packing.{held}

abbrev pub value : Bool → ℕ
value true = 1
value false = 0

odd-value : (b : Bool) → odd (value b) ≡ b
odd-value true = refl
odd-value false = refl

pub pow_suc : (k : ℕ) → 2 ^ suc k ≡ 2 ^ k * 2
pow_suc k = rw (sym (add-one k)) (pow-add 2 k 1)

-- the n + 1 lowest bits: the n lowest, and bit n
pub low-push : (n v a : ℕ) → a < 2 ^ n → low (suc n) (v * 2 ^ n + a) ≡ low n a ++ odd v ∷ []
unfolding low
low-push zero v a h = let e : v * 2 ^ 0 + a ≡ v = omega arith in rw e
low-push (suc n) v a h =
    let half : a / 2 < 2 ^ n = omega (arith, pow_suc n) in
    rw (block_odd v n a, block_half v n a) (ap (λ t. odd a ∷ t) (low-push n v (a / 2) half))

-- what `part | (1 << fill)` is
pub set_bit : (fill part : ℕ) → fill < 8 → part < 2 ^ fill → bit_or part ((1 * 2 ^ fill) % 2 ^ 8) ≡ 1 * 2 ^ fill + part
set_bit fill part h l = let e = one_shl fill 8 h in let o = or_shifted_r 1 fill part l in let z : 1 * 2 ^ fill ≡ 2 ^ fill = omega arith in cc

pub part_lt : (fill part p : ℕ) (b : Bool) → part < 2 ^ fill → p ≡ value b * 2 ^ fill + part → p < 2 ^ (fill + 1)
part_lt fill part p true h e = let s = pow-add 2 fill 1 in omega arith
part_lt fill part p false h e = let s = pow-add 2 fill 1 in omega arith

pub bits-push : (fill part p : ℕ) (b : Bool) → part < 2 ^ fill → p ≡ value b * 2 ^ fill + part → low (fill + 1) p ≡ low fill part ++ b ∷ []
bits-push fill part p b h e = rw (add-one, e) (low-push fill (value b) part h ∙ ap (λ t. low fill part ++ t ∷ []) (odd-value b))

pub bits_of_append : (xs ys : List ℕ) → bits_of (xs ++ ys) ≡ bits_of xs ++ bits_of ys
unfolding bits_of
bits_of_append [] ys = refl
bits_of_append (x ∷ xs) ys = ap (λ t. low 8 x ++ t) (bits_of_append xs ys) ∙ sym (append_assoc (low 8 x) (bits_of xs) (bits_of ys))

pub held-part : (octets fill part p : ℕ) (b : Bool) (out : List ℕ) → part < 2 ^ fill → p ≡ value b * 2 ^ fill + part
    → held octets (fill + 1) p out ≡ held octets fill part out ++ b ∷ []
unfolding held
held-part octets fill part p b out h e =
    ap (λ t. bits_of (take octets out) ++ t) (bits-push fill part p b h e) ∙ sym (append_assoc (bits_of (take octets out)) (low fill part) (b ∷ []))

-- an octet that stands is whole: as a part of eight bits
pub whole-octet : (octets p : ℕ) (out : List ℕ) → octets < length out → held (octets + 1) 0 0 (set out octets p) ≡ held octets 8 p out
unfolding held low bits_of
whole-octet octets p out h =
    ap (λ t. bits_of t ++ []) (take_more_set out octets p h)
    ∙ append-nil (bits_of (take octets out ++ p ∷ []))
    ∙ bits_of_append (take octets out) (p ∷ [])
    ∙ ap (λ t. bits_of (take octets out) ++ t) (append-nil (low 8 p))

pub held_whole : (octets fill part p : ℕ) (b : Bool) (out : List ℕ) → octets < length out → fill ≡ 7 → part < 2 ^ fill → p ≡ value b * 2 ^ fill + part
    → held (octets + 1) 0 0 (set out octets p) ≡ held octets fill part out ++ b ∷ []
held_whole octets fill part p b out l f h e =
    let w = whole-octet octets p out l in
    let q = held-part octets fill part p b out h e in
    let g : fill + 1 ≡ 8 = omega arith in
    cc

-- what `part | (u8::from(bit) << fill)` is
pub part-more : (fill part f : ℕ) (b : Bool) → fill < 8 → part < 2 ^ fill → f ≡ bool_byte b → bit_or part (f * 2 ^ fill % 2 ^ 8) ≡ value b * 2 ^ fill + part
part-more fill part f true h l e = ap (λ x. bit_or part (x * 2 ^ fill % 2 ^ 8)) e ∙ set_bit fill part h l
part-more fill part f false h l e =
    let z : 0 * 2 ^ fill % 2 ^ 8 ≡ 0 = omega arith in
    let y : 0 * 2 ^ fill + part ≡ part = omega arith in
    ap (λ x. bit_or part (x * 2 ^ fill % 2 ^ 8)) e ∙ ap (bit_or part) z ∙ or_zero_r part ∙ sym y

pub behind-set : (out : List ℕ) (o p : ℕ) → drop (o + 1) (set out o p) ≡ drop (o + 1) out
behind-set out o p = drop-set-lt (o + 1) out o p (omega arith)

pub part-fits : (fill part p : ℕ) (b : Bool) → fill < 8 → part < 2 ^ fill → p ≡ value b * 2 ^ fill + part → p < 256
part-fits fill part p b h l e =
    let a = part_lt fill part p b l e in
    let up : fill + 1 ≤ 8 = omega arith in
    let m : 2 ^ (fill + 1) ≤ 2 ^ 8 = pow_mono up in
    omega arith

-- a number under a mask of ones or of zeros
pub masked : (b : Bool) (x m f : ℕ) → f ≡ bool_byte b → (m + f) % 256 ≡ 0 → m < 256 → x < 256 → bit_and x m ≡ cond b x 0
masked true x m f e s h l =
    let ones : m ≡ 255 = omega arith in
    let keep : x % 256 ≡ x = omega arith in
    ap (bit_and x) ones ∙ and_mask x 8 ∙ keep
masked false x m f e s h l =
    let zeros : m ≡ 0 = omega arith in
    ap (bit_and x) zeros ∙ and_zero_r x
