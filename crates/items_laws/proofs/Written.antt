-- A head that stands at a place is read there.
use Rattle.std.proofs.Common.{◌≡◌, ℕ, zero, suc, ◌+◌, ◌*◌, ◌/◌, ◌%◌, ◌^◌, ◌<◌, ◌≤◌, true, List, [], ◌∷◌, ◌++◌, length, get_or, drop, Ok, sym, refl, ap, ◌∙◌, subst, ⊎_elim, add-zero, pow-suc, arith, length-append, length-drop, length-take-le, get_or-drop, get_or-take}
use Rattle.std.proofs.str.Laws.{order}
use Rattle.items.specs.Heads.{part}
use Rattle.std.proofs.lemmas.List.{same_lists, get_or_default, get_or_append_left, get_or-append-add}
use Rattle.std.proofs.lemmas.Bool.Decides.{nat_tests}
use Rattle.items.specs.Heads.{big_endian, width, least, long_head, head_from, head_at, head_size}
use Rattle.items.specs.Trees.{octets_of, head_of, At}

module _ (os : List ℕ) (p : ℕ) (xs ys : List ℕ) (a : At os p (xs ++ ys)) where
  pub at_left : At os p xs
  at_left = record {
    within = omega (arith, a.within, length-append xs ys);
    same = λ i h. a.same i (omega (arith, length-append xs ys)) ∙ get_or_append_left xs ys 0 i h;
  }

  pub at_right : At os (p + length xs) ys
  at_right = record {
    within = omega (arith, a.within, length-append xs ys);
    same = λ i h.
        let e : p + length xs + i ≡ p + (length xs + i) = omega arith in
        ap (λ k. get_or os k 0) e ∙ a.same (length xs + i) (omega (arith, length-append xs ys)) ∙ get_or-append-add xs ys i 0;
  }

pub at_first : (os : List ℕ) (p x : ℕ) (xs : List ℕ) → At os p (x ∷ xs) → get_or os p 0 ≡ x
at_first os p x xs a = ap (λ k. get_or os k 0) (sym (add-zero p)) ∙ a.same 0 (omega arith)

pub at_rest : (os : List ℕ) (p x : ℕ) (xs : List ℕ) → At os p (x ∷ xs) → At os (p + 1) xs
at_rest os p x xs a = at_right os p (x ∷ []) xs a

pub at-start : (pre xs rest : List ℕ) → At (pre ++ (xs ++ rest)) (length pre) xs
at-start pre xs rest = record {
  within = omega (arith, length-append pre (xs ++ rest), length-append xs rest);
  same = λ i h. get_or-append-add pre (xs ++ rest) i 0 ∙ get_or_append_left xs rest 0 i h;
}

-- what lies at a place is the part there
pub at_part : (os : List ℕ) (p : ℕ) (xs : List ℕ) → At os p xs → part os p (length xs) ≡ xs
at_part os p xs a =
    let l : length (part os p (length xs)) ≡ length xs = length-take-le (length xs) (drop p os) (omega (arith, length-drop p os, a.within)) in
    same_lists _ _ l (λ k d h.
    let lt : k < length xs = omega arith in
    get_or_default (part os p (length xs)) k d 0 h ∙ get_or-take (length xs) (drop p os) k 0 lt ∙ get_or-drop p os k 0 ∙ a.same k lt ∙ get_or_default xs k 0 d lt)

pub length-octets : (k n : ℕ) → length (octets_of k n) ≡ k
length-octets zero n = refl
length-octets (suc k) n = length-append (octets_of k (n / 256)) ((n % 256) ∷ []) ∙ omega (arith, length-octets k (n / 256))

pub number-octets : (k n : ℕ) (os : List ℕ) (p : ℕ) → At os p (octets_of k n) → n < 256 ^ k → big_endian os p k ≡ n
number-octets zero n os p a h = omega arith
number-octets (suc k) n os p a h =
    let m : n < 256 ^ k * 256 = rw pow-suc at h in
    let high = number-octets k (n / 256) os p (at_left os p (octets_of k (n / 256)) _ a) (omega arith) in
    let low = at_first os (p + length (octets_of k (n / 256))) (n % 256) [] (at_right os p (octets_of k (n / 256)) _ a) in
    let low' : get_or os (p + k) 0 ≡ n % 256 = ap (λ j. get_or os (p + j) 0) (sym (length-octets k (n / 256))) ∙ low in
    omega (arith, high, low')

pub record Reads (os : List ℕ) (p m n len : ℕ) : Type 0 where
  pub is : head_at os p ≡ Ok (record { major = m; argument = n; shortest = true })
  pub long : head_size os p ≡ len

module _ (os : List ℕ) (p m n : ℕ) where
  pub short : n < 24 → At os p ((32 * m + n) ∷ []) → Reads os p m n 1
  unfolding head_at head_from head_size
  short few a =
      let first = at_first os p (32 * m + n) [] a in
      let q : get_or os p 0 / 32 ≡ m = omega arith in
      let r : get_or os p 0 % 32 ≡ n = omega arith in
      let w : p + 1 ≤ length os = a.within in
      record { is = rw (q, r) (grind (arith, nat_tests)); long = rw r (grind (arith, nat_tests)) }

  long : (info : ℕ) → 24 ≤ info → info < 28 → n < 256 ^ width info → least info ≤ n → At os p ((32 * m + info) ∷ octets_of (width info) n) → Reads os p m n (1 + width info)
  unfolding head_at head_from long_head head_size
  long info low high fits over a =
      let first = at_first os p (32 * m + info) (octets_of (width info) n) a in
      let q : get_or os p 0 / 32 ≡ m = omega arith in
      let r : get_or os p 0 % 32 ≡ info = omega arith in
      let w = a.within in
      let l = length-octets (width info) n in
      let value = number-octets (width info) n os (p + 1) (at_rest os p (32 * m + info) (octets_of (width info) n) a) fits in
      record { is = rw (q, r, value) (grind (arith, nat_tests)); long = rw r (grind (arith, nat_tests)) }

  -- the five widths
  pub head-back : n < 2 ^ 64 → At os p (head_of m n) → Reads os p m n (length (head_of m n))
  unfolding head_of
  head-back fits a = ⊎_elim
      (λ h.
      let e : head_of m n ≡ (32 * m + n) ∷ [] = grind (arith, nat_tests) in
      subst (Reads os p m n) (sym (ap length e)) (short h (subst (At os p) e a)))
      (λ h₀. ⊎_elim
      (λ h.
      let e : head_of m n ≡ (32 * m + 24) ∷ octets_of 1 n = grind (arith, nat_tests) in
      subst (Reads os p m n) (sym (ap length e)) (long 24 (omega arith) (omega arith) (omega arith) h₀ (subst (At os p) e a)))
      (λ h₁. ⊎_elim
      (λ h.
      let e : head_of m n ≡ (32 * m + 25) ∷ octets_of 2 n = grind (arith, nat_tests) in
      subst (Reads os p m n) (sym (ap length e)) (long 25 (omega arith) (omega arith) (omega arith) h₁ (subst (At os p) e a)))
      (λ h₂. ⊎_elim
      (λ h.
      let e : head_of m n ≡ (32 * m + 26) ∷ octets_of 4 n = grind (arith, nat_tests) in
      subst (Reads os p m n) (sym (ap length e)) (long 26 (omega arith) (omega arith) (omega arith) h₂ (subst (At os p) e a)))
      (λ h₃.
      let e : head_of m n ≡ (32 * m + 27) ∷ octets_of 8 n = grind (arith, nat_tests) in
      subst (Reads os p m n) (sym (ap length e)) (long 27 (omega arith) (omega arith) fits h₃ (subst (At os p) e a)))
      (order n 4294967296))
      (order n 65536))
      (order n 256))
      (order n 24)
