-- Writes of neighbouring parts, from the front on.
use Rattle.std.proofs.Common.{◌≡◌, ℕ, ◌+◌, ◌<◌, ◌≤◌, List, [], ◌∷◌, ◌++◌, length, take, set, sym, refl, ap, ◌∙◌, append_assoc, arith, length-append, length-drop, length-set, length-take}
use borrow.Rule.Slice.PartMut.{put_mid}
use Rattle.std.proofs.lemmas.Slice.{take-put_mid}
use Rattle.std.proofs.lemmas.List.{take_more_set, take_all}

pub record Fronted (a : ℕ) (front xs : List ℕ) (n : ℕ) : Type 0 where
  pub front-is : take a xs ≡ front
  pub long : length xs ≡ n

pub grown : (a k e : ℕ) (xs ys front : List ℕ) (n : ℕ) → Fronted a front xs n → e ≡ a + k → e ≤ n → length ys ≡ k → Fronted e (front ++ ys) (put_mid a k xs ys) n
grown a k e xs ys front n f h le l =
    let la : a ≤ length xs = omega (arith, f.long) in
    let q : e ≡ a + length ys = omega arith in
    record {
      front-is = take-put_mid a k xs ys e q la ∙ ap (λ z. z ++ ys) f.front-is;
      long = simp (length-append, length-take, length-drop) (omega (arith, f.long));
    }

module _ (xs s1 s2 s3 s4 s5 : List ℕ) (l0 : length xs ≡ 81) (l1 : length s1 ≡ 16) (l2 : length s2 ≡ 16) (l3 : length s3 ≡ 8) (l4 : length s4 ≡ 8) (l5 : length s5 ≡ 32) where
  first : Fronted 1 (1 ∷ []) (set xs 0 1) 81
  first =
      let h : 0 < length xs = omega arith in
      record { front-is = take_more_set xs 0 1 h; long = length-set xs 0 1 ∙ l0 }

  pub filled : put_mid 49 32 (put_mid 41 8 (put_mid 33 8 (put_mid 17 16 (put_mid 1 16 (set xs 0 1) s1) s2) s3) s4) s5 ≡ 1 ∷ (s1 ++ (s2 ++ (s3 ++ (s4 ++ s5))))
  filled =
      let f1 = grown 1 16 17 _ s1 _ 81 first refl (omega arith) l1 in
      let f2 = grown 17 16 33 _ s2 _ 81 f1 refl (omega arith) l2 in
      let f3 = grown 33 8 41 _ s3 _ 81 f2 refl (omega arith) l3 in
      let f4 = grown 41 8 49 _ s4 _ 81 f3 refl (omega arith) l4 in
      let f5 = grown 49 32 81 _ s5 _ 81 f4 refl (omega arith) l5 in
      sym (take_all 81 _ (omega (arith, f5.long))) ∙ f5.front-is ∙ simp append_assoc

pub five : {s1 s2 s3 s4 s5 t1 t2 t3 t4 t5 : List ℕ} → s1 ≡ t1 → s2 ≡ t2 → s3 ≡ t3 → s4 ≡ t4 → s5 ≡ t5 → 1 ∷ (s1 ++ (s2 ++ (s3 ++ (s4 ++ s5)))) ≡ 1 ∷ (t1 ++ (t2 ++ (t3 ++ (t4 ++ t5))))
five e1 e2 e3 e4 e5 = cc
