-- The table of octet sequences is UTF-8.
use Rattle.std.proofs.Common.{◌≡◌, ℕ, zero, suc, ◌+◌, ◌-◌, ◌*◌, ◌/◌, ◌<◌, ◌≤◌, true, ltb, leb, List, [], ◌∷◌, ◌++◌, length, IsUtf8, sym, refl, ap, ◌∙◌, subst, ⊎_elim, le_trans, arith, lit≤}
use lib.Utf8.{scalar, scalars, encode, encodes, next, low_scalar, scalar_cases}
use Rattle.std.proofs.str.Laws.{order, one, two, three, four}
use Rattle.std.proofs.str.Digits.{high_scalar}
use Rattle.std.proofs.lemmas.Str.{IsUtf8-append, IsUtf8-nil, IsUtf8-encode}
use Rattle.std.proofs.lemmas.Bool.{and_parts, leb-true, ltb-true, true≢false}
use Rattle.std.proofs.lemmas.Bool.Decides.{nat_tests}
use Rattle.text.specs.Table.{tails, low, high, within, text_after, is_text}
use Rattle.text.specs.Laws.{TextIsUtf8}
use Rattle.text.proofs.Steps.{any, lead}

next-on : (n lo hi b : ℕ) (bs : List ℕ) → lo ≤ b → b ≤ hi → text_after (suc n) lo hi (b ∷ bs) ≡ text_after n 0x80 0xBF bs
unfolding text_after
next-on n lo hi b bs l h = let t : within lo hi b ≡ true = grind (arith, nat_tests) in rw t

char-on : (c : ℕ) (rest : List ℕ) → scalar c ≡ true → is_text (encode c ++ rest) ≡ is_text rest
char-on c rest s = ⊎_elim
    (λ (h : c < 128).
    ap (λ x. is_text (x ++ rest)) (one c h) ∙ lead 0 c rest (grind (arith, nat_tests)) (omega arith) ∙ any _ _ _ _ rest)
    (λ (l : 128 ≤ c). ⊎_elim
    (λ (h : c < 2048).
    let a : ℕ = 192 + c / 64 in
    let lo : low a ≡ 128 = grind (arith, nat_tests) in
    let hi : high a ≡ 191 = grind (arith, nat_tests) in
    ap (λ x. is_text (x ++ rest)) (two c l h)
    ∙ lead 1 a (next c ∷ rest) (grind (arith, nat_tests)) (omega arith)
    ∙ next-on 0 (low a) (high a) (next c) rest (omega arith) (omega arith))
    (λ (l' : 2048 ≤ c). ⊎_elim
    (λ (h : c < 65536).
    let a : ℕ = 224 + c / 4096 in
    let b : ℕ = next (c / 64) in
    let lo : low a ≤ b = grind (arith, nat_tests) in
    let sc = scalar_cases c s in
    let hi : b ≤ high a = ⊎_elim (λ (x : c < 55296). grind (arith, nat_tests)) (λ (x : (57344 ≤ c) × (c < 1114112)). grind (arith, nat_tests)) sc in
    ap (λ x. is_text (x ++ rest)) (three c l' h)
    ∙ lead 2 a (b ∷ next c ∷ rest) (grind (arith, nat_tests)) (omega arith)
    ∙ next-on 1 (low a) (high a) b (next c ∷ rest) lo hi
    ∙ next-on 0 128 191 (next c) rest (omega arith) (omega arith))
    (λ (l'' : 65536 ≤ c).
    let top : c < 1114112 = ⊎_elim (λ (x : c < 55296). omega arith) (λ (x : (57344 ≤ c) × (c < 1114112)). x.1) (scalar_cases c s) in
    let a : ℕ = 240 + c / 262144 in
    let b : ℕ = next (c / 4096) in
    let lo : low a ≤ b = grind (arith, nat_tests) in
    let hi : b ≤ high a = grind (arith, nat_tests) in
    ap (λ x. is_text (x ++ rest)) (four c l'')
    ∙ lead 3 a (b ∷ next (c / 64) ∷ next c ∷ rest) (grind (arith, nat_tests)) (omega arith)
    ∙ next-on 2 (low a) (high a) b (next (c / 64) ∷ next c ∷ rest) lo hi
    ∙ next-on 1 128 191 (next (c / 64)) (next c ∷ rest) (omega arith) (omega arith)
    ∙ next-on 0 128 191 (next c) rest (omega arith) (omega arith))
    (order c 65536))
    (order c 2048))
    (order c 128)

text_of : (cs : List ℕ) → scalars cs ≡ true → is_text (encodes cs) ≡ true
unfolding text_after
text_of [] s = refl
text_of (c ∷ cs) s = let p = and_parts (scalar c) (scalars cs) s in char-on c (encodes cs) p.0 ∙ text_of cs p.1

record Split (n lo hi : ℕ) (bs : List ℕ) : Type 0 where
  octet : ℕ
  rest : List ℕ
  is : bs ≡ octet ∷ rest
  above : lo ≤ octet
  below : octet ≤ hi
  later : text_after n 0x80 0xBF rest ≡ true

split : (n lo hi : ℕ) (bs : List ℕ) → text_after (suc n) lo hi bs ≡ true → Split n lo hi bs
unfolding text_after
split n lo hi [] e = absurd (true≢false (sym e))
split n lo hi (b ∷ bs) e =
    let p = and_parts (within lo hi b) (text_after n 0x80 0xBF bs) e in
    let q = and_parts (leb lo b) (leb b hi) p.0 in
    record { octet = b; rest = bs; is = refl; above = leb-true lo b q.0; below = leb-true b hi q.1; later = p.1 }

lead-back : (a : ℕ) (bs : List ℕ) → is_text (a ∷ bs) ≡ true → (tails a < 4) × (text_after (tails a) (low a) (high a) bs ≡ true)
unfolding text_after
lead-back a bs e = let p = and_parts (ltb (tails a) 4) (text_after (tails a) (low a) (high a) bs) e in (ltb-true (tails a) 4 p.0, p.1)

-- the number that three octets, and four, write
module _ (a y w : ℕ) (ga : 224 ≤ a) (la : a < 240) (gy : 128 ≤ y) (ly : y ≤ 191) (gw : 128 ≤ w) (lw : w ≤ 191) where
  abbrev three_of : ℕ
  three_of = (a - 224) * 4096 + (y - 128) * 64 + (w - 128)

  three_a : 224 + three_of / 4096 ≡ a
  three_a = omega arith

  three_y : next (three_of / 64) ≡ y
  three_y = let e : three_of / 64 ≡ (a - 224) * 64 + (y - 128) = omega arith in subst (λ (m : ℕ). next m ≡ y) (sym e) (omega arith)

  three_w : next three_of ≡ w
  three_w = omega arith

  three_top : three_of < 65536
  three_top = omega arith

  three_least : low a ≤ y → 2048 ≤ three_of
  three_least l = grind (arith, nat_tests)

  three_scalar : y ≤ high a → scalar three_of ≡ true
  three_scalar h = ⊎_elim
      (λ (x : three_of < 55296). low_scalar three_of x)
      (λ (x : 55296 ≤ three_of). let z : 57344 ≤ three_of = grind (arith, nat_tests) in high_scalar three_of x z (omega arith))
      (order three_of 55296)

module _ (a y w x : ℕ) (ga : 240 ≤ a) (la : a < 245) (gy : 128 ≤ y) (ly : y ≤ 191) (gw : 128 ≤ w) (lw : w ≤ 191) (gx : 128 ≤ x) (lx : x ≤ 191) where
  abbrev four_of : ℕ
  four_of = (a - 240) * 262144 + (y - 128) * 4096 + (w - 128) * 64 + (x - 128)

  four_a : 240 + four_of / 262144 ≡ a
  four_a = omega arith

  four_y : next (four_of / 4096) ≡ y
  four_y = let e : four_of / 4096 ≡ (a - 240) * 64 + (y - 128) = omega arith in subst (λ (m : ℕ). next m ≡ y) (sym e) (omega arith)

  four_w : next (four_of / 64) ≡ w
  four_w = let e : four_of / 64 ≡ (a - 240) * 4096 + (y - 128) * 64 + (w - 128) = omega arith in subst (λ (m : ℕ). next m ≡ w) (sym e) (omega arith)

  four_x : next four_of ≡ x
  four_x = omega arith

  four_least : low a ≤ y → 65536 ≤ four_of
  four_least l = let k : 16 ≤ (a - 240) * 64 + (y - 128) = grind (arith, nat_tests) in omega arith

  four_top : y ≤ high a → four_of < 1114112
  four_top h = let k : (a - 240) * 64 + (y - 128) < 272 = grind (arith, nat_tests) in omega arith

module _ (n : ℕ) (ih : (bs : List ℕ) → length bs ≤ n → is_text bs ≡ true → IsUtf8 bs) (a : ℕ) where
  -- a character and what follows it
  char : (c : ℕ) (bs rest : List ℕ) → scalar c ≡ true → encode c ++ rest ≡ bs → IsUtf8 rest → IsUtf8 bs
  char c bs rest s e u = subst IsUtf8 e (IsUtf8-append (encode c) rest (IsUtf8-encode c s) u)

  after : (k : ℕ) (bs : List ℕ) → tails a ≡ k → text_after (tails a) (low a) (high a) bs ≡ true → text_after k (low a) (high a) bs ≡ true
  after k bs e h = ap (λ j. text_after j (low a) (high a) bs) (sym e) ∙ h

  by_one : (bs : List ℕ) → length bs ≤ n → a < 128 → text_after (tails a) (low a) (high a) bs ≡ true → IsUtf8 (a ∷ bs)
  by_one bs l h t =
      let z : tails a ≡ 0 = grind (arith, nat_tests) in
      char a (a ∷ bs) bs (low_scalar a (omega arith)) (ap (λ x. x ++ bs) (one a h)) (ih bs l (any _ _ _ _ bs ∙ after 0 bs z t))

  by_two : (bs : List ℕ) → length bs ≤ n → 0xC2 ≤ a → a < 0xE0 → text_after (tails a) (low a) (high a) bs ≡ true → IsUtf8 (a ∷ bs)
  by_two bs l g h t =
      let z : tails a ≡ 1 = grind (arith, nat_tests) in
      let u = split 0 (low a) (high a) bs (after 1 bs z t) in
      let y : ℕ = u.octet in
      let lo : 128 ≤ y = grind (arith, nat_tests, u.above) in
      let hi : y ≤ 191 = grind (arith, nat_tests, u.below) in
      let c : ℕ = (a - 192) * 64 + (y - 128) in
      let p : 192 + c / 64 ≡ a = omega arith in
      let q : next c ≡ y = omega arith in
      char c (a ∷ bs) u.rest (low_scalar c (omega arith))
      (ap (λ x. x ++ u.rest) (two c (omega arith) (omega arith)) ∙ (λ k. p k ∷ q k ∷ u.rest) ∙ ap (λ x. a ∷ x) (sym u.is))
      (ih u.rest (omega (arith, ap length u.is)) u.later)

  by_three : (bs : List ℕ) → length bs ≤ n → 0xE0 ≤ a → a < 0xF0 → text_after (tails a) (low a) (high a) bs ≡ true → IsUtf8 (a ∷ bs)
  by_three bs l g h t =
      let z : tails a ≡ 2 = grind (arith, nat_tests) in
      let u = split 1 (low a) (high a) bs (after 2 bs z t) in
      let v = split 0 128 191 u.rest u.later in
      let y : ℕ = u.octet in
      let w : ℕ = v.octet in
      let wl : 128 ≤ w = v.above in
      let wh : w ≤ 191 = v.below in
      let lo : 128 ≤ y = grind (arith, nat_tests, u.above) in
      let hi : y ≤ 191 = grind (arith, nat_tests, u.below) in
      let c : ℕ = three_of a y w g h lo hi wl wh in
      let p = three_a a y w g h lo hi wl wh in
      let q = three_y a y w g h lo hi wl wh in
      let r = three_w a y w g h lo hi wl wh in
      char c (a ∷ bs) v.rest (three_scalar a y w g h lo hi wl wh u.below)
      (ap (λ x. x ++ v.rest) (three c (three_least a y w g h lo hi wl wh u.above) (three_top a y w g h lo hi wl wh)) ∙ (λ k. p k ∷ q k ∷ r k ∷ v.rest) ∙ ap (λ x. a ∷ y ∷ x) (sym v.is) ∙ ap (λ x. a ∷ x) (sym u.is))
      (ih v.rest (omega (arith, ap length u.is, ap length v.is)) v.later)

  by_four : (bs : List ℕ) → length bs ≤ n → 0xF0 ≤ a → tails a < 4 → text_after (tails a) (low a) (high a) bs ≡ true → IsUtf8 (a ∷ bs)
  by_four bs l g few t =
      let h : a < 0xF5 = grind (arith, nat_tests) in
      let z : tails a ≡ 3 = grind (arith, nat_tests) in
      let u = split 2 (low a) (high a) bs (after 3 bs z t) in
      let v = split 1 128 191 u.rest u.later in
      let o = split 0 128 191 v.rest v.later in
      let y : ℕ = u.octet in
      let w : ℕ = v.octet in
      let x : ℕ = o.octet in
      let wl : 128 ≤ w = v.above in
      let wh : w ≤ 191 = v.below in
      let xl : 128 ≤ x = o.above in
      let xh : x ≤ 191 = o.below in
      let lo : 128 ≤ y = grind (arith, nat_tests, u.above) in
      let hi : y ≤ 191 = grind (arith, nat_tests, u.below) in
      let c : ℕ = four_of a y w x g h lo hi wl wh xl xh in
      let p = four_a a y w x g h lo hi wl wh xl xh in
      let q = four_y a y w x g h lo hi wl wh xl xh in
      let r = four_w a y w x g h lo hi wl wh xl xh in
      let s = four_x a y w x g h lo hi wl wh xl xh in
      let k = four_least a y w x g h lo hi wl wh xl xh u.above in
      let k' = four_top a y w x g h lo hi wl wh xl xh u.below in
      char c (a ∷ bs) o.rest (high_scalar c (le_trans (lit≤ tt) k) (le_trans (lit≤ tt) k) k')
      (ap (λ i. i ++ o.rest) (four c k) ∙ (λ k. p k ∷ q k ∷ r k ∷ s k ∷ o.rest) ∙ ap (λ i. a ∷ y ∷ w ∷ i) (sym o.is) ∙ ap (λ i. a ∷ y ∷ i) (sym v.is) ∙ ap (λ i. a ∷ i) (sym u.is))
      (ih o.rest (omega (arith, ap length u.is, ap length v.is, ap length o.is)) o.later)

of_text : (n : ℕ) (bs : List ℕ) → length bs ≤ n → is_text bs ≡ true → IsUtf8 bs
of_text n [] l e = IsUtf8-nil
of_text zero (a ∷ bs) l e = absurd (omega arith)
of_text (suc n) (a ∷ bs) l e =
    let t = lead-back a bs e in
    let m : length bs ≤ n = omega arith in
    ⊎_elim (λ h. by_one n (of_text n) a bs m h t.1) (λ (g : 128 ≤ a).
    ⊎_elim (λ (h : a < 0xC2). let bad : tails a ≡ 4 = grind (arith, nat_tests) in absurd (omega (arith, t.0))) (λ (g₂ : 0xC2 ≤ a).
    ⊎_elim (λ h. by_two n (of_text n) a bs m g₂ h t.1) (λ (g₃ : 0xE0 ≤ a).
    ⊎_elim (λ h. by_three n (of_text n) a bs m g₃ h t.1) (λ (g₄ : 0xF0 ≤ a). by_four n (of_text n) a bs m g₄ t.0 t.1)
    (order a 0xF0)) (order a 0xE0)) (order a 0xC2)) (order a 0x80)

pub text-is_utf8 : TextIsUtf8
text-is_utf8 bs = (of_text (length bs) bs (omega arith), λ u. ap is_text (sym u.1.1) ∙ text_of u.0 u.1.0)
