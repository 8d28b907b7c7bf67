-- The steps of the loops over the schedule and the rounds.
use Rattle.std.proofs.Common.{◌≡◌, ℕ, zero, suc, ◌+◌, ◌-◌, ◌*◌, ◌%◌, ◌^◌, ◌<◌, ◌≤◌, ltb, List, [], ◌∷◌, ◌++◌, length, get_or, take, drop, set, sym, refl, ap, ◌∙◌, add-one, w32, arith}
use Rattle.std.proofs.lemmas.List.{take_more_set, get_or-take, get_or-drop, drop-drop, length-append, length-drop}
use Rattle.std.specs.Int.{from_be_bytes}
use Rattle.std.specs.Simd.{first_chunks}
use Rattle.std.proofs.lemmas.Bool.{cond-true, cond-false, lt-ltb, le-ltb}
use Rattle.sha256.specs.declared.words.Words.{Words}
use Rattle.sha256.specs.Sha256.{◌⊞◌, sigma0, sigma1, word_of, next_word, scheduled, round, rounds, constants}

pub rounds-more : (t : ℕ) (w : List ℕ) (v : Words) → rounds (t + 1) w v ≡ round (rounds t w v) (get_or constants t 0) (get_or w t 0)
unfolding rounds
rounds-more t w v = rw add-one

-- one turn more of the loop over the rounds
pub round_more : {A : Type 0} (xs : List A) (x : A) (w : List ℕ) (first v r : Words) (k word : ℕ) → v ≡ rounds (length xs) w first → k ≡ get_or constants (length xs) 0 → word ≡ get_or w (length xs) 0 → r ≡ round v k word
    → r ≡ rounds (length (xs ++ x ∷ [])) w first
round_more xs x w first v r k word so_far ek ew e =
    e ∙ (λ i. round (so_far i) (ek i) (ew i)) ∙ sym (rounds-more (length xs) w first) ∙ sym (ap (λ t. rounds t w first) (length-append xs (x ∷ [])))

pub scheduled-more : (block : List ℕ) (t : ℕ) → scheduled block (t + 1) ≡ scheduled block t ++ next_word block t (scheduled block t) ∷ []
unfolding scheduled
scheduled-more block t = rw add-one

pub put_word : (block w : List ℕ) (t x : ℕ) → t < 64 → length w ≡ 64 → take t w ≡ scheduled block t → x ≡ next_word block t (take t w) → take (t + 1) (set w t x) ≡ scheduled block (t + 1)
put_word block w t x h l inv e =
    let m = take_more_set w t x (omega arith) in
    let s = scheduled-more block t in
    cc

-- four octets of a block, as they are cut off
word_at : (n : ℕ) (block : List ℕ) (t : ℕ) → t < n → get_or (first_chunks 4 n block) t [] ≡ take 4 (drop (4 * t) block)
word_at zero block t l = absurd (omega arith)
word_at (suc n) block zero l = refl
word_at (suc n) block (suc t) l = word_at n (drop 4 block) t (omega arith) ∙ ap (take 4) (drop-drop (4 * t) 4 block ∙ ap (λ k. drop k block) (omega arith))

four : (xs : List ℕ) → 4 ≤ length xs → take 4 xs ≡ get_or xs 0 0 ∷ get_or xs 1 0 ∷ get_or xs 2 0 ∷ get_or xs 3 0 ∷ []
four [] l = absurd (omega arith)
four (a ∷ []) l = absurd (omega arith)
four (a ∷ b ∷ []) l = absurd (omega arith)
four (a ∷ b ∷ c ∷ []) l = absurd (omega arith)
four (a ∷ b ∷ c ∷ d ∷ xs) l = refl

-- and the word that they are
pub word_read : (words : List (List ℕ)) (block : List ℕ) (n t r : ℕ) → words ≡ first_chunks 4 n block → t < n → 4 * t + 4 ≤ length block → r ≡ from_be_bytes w32 (get_or words t []) → r ≡ word_of block t
unfolding word_of
word_read words block n t r is in-it room e =
    let at : get_or words t [] ≡ take 4 (drop (4 * t) block) = ap (λ ws. get_or ws t []) is ∙ word_at n block t in-it in
    let long : 4 ≤ length (drop (4 * t) block) = simp length-drop (omega arith) in
    let read : r ≡ from_be_bytes w32 (get_or (drop (4 * t) block) 0 0 ∷ get_or (drop (4 * t) block) 1 0 ∷ get_or (drop (4 * t) block) 2 0 ∷ get_or (drop (4 * t) block) 3 0 ∷ []) = e ∙ ap (from_be_bytes w32) (at ∙ four (drop (4 * t) block) long) in
    let o0 : get_or (drop (4 * t) block) 0 0 ≡ get_or block (4 * t) 0 = get_or-drop (4 * t) block 0 0 ∙ ap (λ k. get_or block k 0) (omega arith) in
    let o1 = get_or-drop (4 * t) block 1 0 in
    let o2 = get_or-drop (4 * t) block 2 0 in
    let o3 = get_or-drop (4 * t) block 3 0 in
    read ∙ (λ i. from_be_bytes w32 (o0 i ∷ o1 i ∷ o2 i ∷ o3 i ∷ []))

pub first_word : (block w : List ℕ) (t : ℕ) → t < 16 → word_of block t ≡ next_word block t w
unfolding next_word
first_word block w t h = sym (cond-true _ _ _ (lt-ltb t 16 h))

sum_order : (a b c d : ℕ) → (((d + c) % 2 ^ 32 + b) % 2 ^ 32 + a) % 2 ^ 32 ≡ a ⊞ b ⊞ c ⊞ d
unfolding ◌⊞◌
sum_order a b c d = omega arith

later-is : (block w : List ℕ) (t : ℕ) → 16 ≤ t
    → sigma1 (get_or w (t - 2) 0) ⊞ get_or w (t - 7) 0 ⊞ sigma0 (get_or w (t - 15) 0) ⊞ get_or w (t - 16) 0 ≡ next_word block t (take t w)
unfolding next_word
later-is block w t h =
    let a = get_or-take t w (t - 2) 0 (omega arith) in
    let b = get_or-take t w (t - 7) 0 (omega arith) in
    let c = get_or-take t w (t - 15) 0 (omega arith) in
    let d = get_or-take t w (t - 16) 0 (omega arith) in
    let e = cond-false (ltb t 16) (word_of block t) (sigma1 (get_or (take t w) (t - 2) 0) ⊞ get_or (take t w) (t - 7) 0 ⊞ sigma0 (get_or (take t w) (t - 15) 0) ⊞ get_or (take t w) (t - 16) 0) (le-ltb t 16 h) in
    cc

-- the sum in the order in which its parts are known
pub later_word : (block w : List ℕ) (t s0 s1 : ℕ) → 16 ≤ t → s0 ≡ sigma0 (get_or w (t - 15) 0) → s1 ≡ sigma1 (get_or w (t - 2) 0)
    → (((get_or w (t - 16) 0 + s0) % 2 ^ 32 + get_or w (t - 7) 0) % 2 ^ 32 + s1) % 2 ^ 32 ≡ next_word block t (take t w)
later_word block w t s0 s1 h e0 e1 =
    (λ i. (((get_or w (t - 16) 0 + e0 i) % 2 ^ 32 + get_or w (t - 7) 0) % 2 ^ 32 + e1 i) % 2 ^ 32)
    ∙ sum_order (sigma1 (get_or w (t - 2) 0)) (get_or w (t - 7) 0) (sigma0 (get_or w (t - 15) 0)) (get_or w (t - 16) 0)
    ∙ later-is block w t h
