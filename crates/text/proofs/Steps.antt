-- How text is read, character by character.
use Rattle.std.proofs.Common.{IsAscii, ◌≡◌, ℕ, zero, suc, ◌+◌, ◌-◌, ◌<◌, ◌≤◌, Bool, true, false, ◌&&◌, ltb, not, cond, Option, Some, None, List, [], ◌∷◌, length, get_or, take, drop, refl, sym, ap, one-add, ◌∙◌, arith}
use Rattle.std.proofs.lemmas.List.{take_all, length-drop}
use Rattle.std.proofs.lemmas.Bool.Decides.{nat_tests}
use Rattle.std.specs.List.{position_or_len}
use Rattle.std.specs.Option.{unwrap_or}
use Rattle.std.proofs.lemmas.List.Sums.{prefix_len-le-length}
use Rattle.std.proofs.lemmas.Bool.{ltb-true, ltb-false}
use Rattle.text.specs.Table.{tails, low, high, within, text_after, is_text}

-- with none due, the limits do not matter
pub any : (lo hi lo' hi' : ℕ) (bs : List ℕ) → text_after 0 lo hi bs ≡ text_after 0 lo' hi' bs
unfolding text_after
any lo hi lo' hi' [] = refl
any lo hi lo' hi' (b ∷ bs) = refl

-- a first octet with n tails
pub lead : (n a : ℕ) (bs : List ℕ) → tails a ≡ n → n < 4 → is_text (a ∷ bs) ≡ text_after n (low a) (high a) bs
unfolding text_after
lead n a bs e few = let t : ltb (tails a) 4 ≡ true = grind (arith, nat_tests) in let s : is_text (a ∷ bs) ≡ text_after (tails a) (low a) (high a) bs = rw t in s ∙ ap (λ k. text_after k (low a) (high a) bs) e

-- and an octet that is no first one
pub no_lead : (a : ℕ) (bs : List ℕ) → tails a ≡ 4 → is_text (a ∷ bs) ≡ false
unfolding text_after
no_lead a bs e = rw e

-- fewer octets than are due
no : (b : Bool) {d : Bool} → d ≡ false → (b && d) ≡ false
no true e = e
no false e = refl

short : (n lo hi : ℕ) (bs : List ℕ) → length bs < n → text_after n lo hi bs ≡ false
unfolding text_after
short zero lo hi bs l = absurd (omega arith)
short (suc n) lo hi [] l = refl
short (suc n) lo hi (b ∷ bs) l = let e = short n 0x80 0xBF bs (omega arith) in no (within lo hi b) e

pub cut : (n a : ℕ) (bs : List ℕ) → tails a ≡ n → n < 4 → length bs < n → is_text (a ∷ bs) ≡ false
cut n a bs e few l = lead n a bs e few ∙ short n (low a) (high a) bs l

-- what stands behind k octets
pub behind : (k : ℕ) (bs : List ℕ) → take (length bs - k) (drop k bs) ≡ drop k bs
behind k bs = take_all (length bs - k) (drop k bs) (omega (arith, length-drop k bs))

pub no_tails : (a : ℕ) (bs : List ℕ) → tails a ≡ 0 → is_text (a ∷ bs) ≡ is_text bs
no_tails a bs e = lead 0 a bs e (omega arith) ∙ any (low a) (high a) 0x80 0xBF bs

pub one_tail : (a : ℕ) (bs : List ℕ) → tails a ≡ 1 → 1 ≤ length bs → is_text (a ∷ bs) ≡ (within (low a) (high a) (get_or bs 0 0) && is_text (drop 1 bs))
unfolding text_after
one_tail a [] e l = absurd (omega arith)
one_tail a (b ∷ bs) e l = lead 1 a (b ∷ bs) e (omega arith)

pub two_tails : (a : ℕ) (bs : List ℕ) → tails a ≡ 2 → 2 ≤ length bs → is_text (a ∷ bs) ≡ (within (low a) (high a) (get_or bs 0 0) && (within 0x80 0xBF (get_or bs 1 0) && is_text (drop 2 bs)))
unfolding text_after
two_tails a [] e l = absurd (omega arith)
two_tails a (b ∷ []) e l = absurd (omega arith)
two_tails a (b ∷ d ∷ bs) e l = lead 2 a (b ∷ d ∷ bs) e (omega arith)

pub three_tails : (a : ℕ) (bs : List ℕ) → tails a ≡ 3 → 3 ≤ length bs
    → is_text (a ∷ bs) ≡ (within (low a) (high a) (get_or bs 0 0) && (within 0x80 0xBF (get_or bs 1 0) && (within 0x80 0xBF (get_or bs 2 0) && is_text (drop 3 bs))))
unfolding text_after
three_tails a [] e l = absurd (omega arith)
three_tails a (b ∷ []) e l = absurd (omega arith)
three_tails a (b ∷ d ∷ []) e l = absurd (omega arith)
three_tails a (b ∷ d ∷ f ∷ bs) e l = lead 3 a (b ∷ d ∷ f ∷ bs) e (omega arith)

-- a letter of ASCII
pub ascii_first : (b : ℕ) (bs : List ℕ) → b < 128 → is_text (b ∷ bs) ≡ is_text bs
ascii_first b bs small = let none : tails b ≡ 0 = grind (arith, nat_tests) in no_tails b bs none

-- whether an octet is not ASCII
abbrev pub not_ascii : ℕ → Bool
not_ascii b = not (ltb b 128)

-- how many octets of ASCII stand in front
abbrev pub ascii_count : List ℕ → ℕ
ascii_count bs = position_or_len not_ascii bs

-- what stands behind them answers as the whole does
pub ascii_front : (bs : List ℕ) → is_text bs ≡ is_text (drop (ascii_count bs) bs)
ascii_front [] = refl
ascii_front (b ∷ bs) = by (ltb b 128) refl (ascii_front bs)
  where
    by : (t : Bool) → ltb b 128 ≡ t → is_text bs ≡ is_text (drop (ascii_count bs) bs) → is_text (b ∷ bs) ≡ is_text (drop (cond (not (not t)) (1 + ascii_count bs) 0) (b ∷ bs))
    by true e behind_it = ascii_first b bs (ltb-true b 128 e) ∙ behind_it ∙ ap (λ k. is_text (drop k (b ∷ bs))) (sym (one-add (ascii_count bs)))
    by false e behind_it = refl

-- a search finds their number, or nothing, and then all are ASCII
pub found : (bs : List ℕ) (r : Option ℕ) → r ≡ cond (ltb (ascii_count bs) (length bs)) (Some (ascii_count bs)) None → unwrap_or r (length bs) ≡ ascii_count bs
found bs r e = by (ltb (ascii_count bs) (length bs)) refl
  where
    by : (t : Bool) → ltb (ascii_count bs) (length bs) ≡ t → unwrap_or r (length bs) ≡ ascii_count bs
    by true h = ap (λ o. unwrap_or o (length bs)) (e ∙ ap (λ z. cond z (Some (ascii_count bs)) None) h)
    by false h = let m = prefix_len-le-length (λ b. not (not_ascii b)) bs in let l : length bs ≤ ascii_count bs = ltb-false (ascii_count bs) (length bs) h in ap (λ o. unwrap_or o (length bs)) (e ∙ ap (λ z. cond z (Some (ascii_count bs)) None) h) ∙ omega arith

pub ascii_text : (bs : List ℕ) → IsAscii bs → is_text bs ≡ true
unfolding text_after
ascii_text [] h = refl
ascii_text (b ∷ bs) h = ascii_first b bs (h 0) ∙ ascii_text bs (λ i. h (suc i))

pub ended : (bs : List ℕ) → length bs ≡ 0 → is_text bs ≡ true
unfolding text_after
ended [] l = refl
ended (b ∷ bs) l = absurd (omega arith)
