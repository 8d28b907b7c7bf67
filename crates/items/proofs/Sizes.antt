-- A number that octets write, the most significant first: its bounds, and the same of a part of octets.
use Rattle.std.proofs.Common.{◌≡◌, ℕ, zero, suc, ◌+◌, ◌-◌, ◌*◌, ◌^◌, ◌<◌, ◌≤◌, List, length, get_or, take, drop, refl, ap, ◌∙◌, pow-suc, add-one, arith, lit<}
use Rattle.std.proofs.lemmas.List.{get_or-take, get_or-drop, length-take, length-drop}
use Rattle.items.specs.Heads.{big_endian}
use native.Mathlib.Nat.{pow-le-pow_right}

pub grow : (v b i : ℕ) → v < 256 ^ i → b < 256 → v * 256 + b < 256 ^ (i + 1)
grow v b i h k = rw (add-one, pow-suc) (omega arith)

pub top : (v b i : ℕ) → v < 256 ^ i → b < 256 → i < 8 → v * 256 + b < 2 ^ 64
top v b i h k l =
    let up : i + 1 ≤ 8 = omega arith in
    let most : 256 ^ (i + 1) ≤ 256 ^ 8 = pow-le-pow_right (lit< tt) up in
    let g = grow v b i h k in
    omega arith

pub part_reads : (os : List ℕ) (p m n : ℕ) → n ≤ m → big_endian (take m (drop p os)) 0 n ≡ big_endian os p n
part_reads os p m zero l = refl
part_reads os p m (suc n) l =
    let z : 0 + n ≡ n = omega arith in
    let e : get_or (take m (drop p os)) (0 + n) 0 ≡ get_or os (p + n) 0 = ap (λ i. get_or (take m (drop p os)) i 0) z ∙ get_or-take m (drop p os) n 0 (omega arith) ∙ get_or-drop p os n 0 in
    rw e (ap (λ v. v * 256 + get_or os (p + n) 0) (part_reads os p m n (omega arith)))

pub slice_reads : (os : List ℕ) (p q n : ℕ) → q ≤ length os → p + n ≡ q → big_endian (take (q - p) (drop p os)) 0 (length (take (q - p) (drop p os))) ≡ big_endian os p n
slice_reads os p q n l e =
    let m : length (take (q - p) (drop p os)) ≡ n = omega (arith, length-take (q - p) (drop p os), length-drop p os) in
    ap (big_endian (take (q - p) (drop p os)) 0) m ∙ part_reads os p (q - p) n (omega arith)
