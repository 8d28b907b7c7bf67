-- What a listener in a body has seen, and what is still to come.
use Rattle.std.proofs.Common.{◌≡◌, ℕ, zero, suc, ◌+◌, ◌-◌, ◌<◌, ◌≤◌, Bool, true, false, cond, eqb, ltb, List, [], ◌∷◌, ◌++◌, length, Some, None, Option, sym, refl, ap, ◌∙◌, subst, inl, inr, append_assoc, append-nil, arith}
use Rattle.std.proofs.lemmas.List.{length-replicate, replicate_more}
use Rattle.std.proofs.lemmas.Bool.{cond_both, cond-true, cond-false, cases_Bool, eqb-true, eqb-false, eq-eqb, ltb-true}
use Rattle.line.specs.declared.listener.Phase.{Phase}
use Rattle.line.specs.declared.listener.Phase.TheVariants.{Hunting, Inside, AfterFiveOnes}
use Rattle.line.specs.declared.listener.Sign.{Sign}
use Rattle.line.specs.declared.listener.Sign.TheVariants.{Nothing, Bit, Flag}
use Rattle.line.specs.Flags.{starts, first_flag}
use Rattle.line.specs.Listening.{tell}
use Rattle.line.proofs.Views.{LastZero, Missing, Kept, Removed, View, go, next, sign, sixth, SoundBy}
use Rattle.line.specs.Stuffing.{unstuff, prepend}
use Rattle.line.proofs.Runs.{ones, same_place, one_more, past_ones, past-run, past_seven, front, then, prepend-prepend, prepend-none, then-prepend, prepend-then, then-nothing, front-ones, front-run, unstuff-ones, unstuff-six, any-ones}

-- the last bits that matter: a 0 and the 1s behind it, or only 1s where there is no 0 in the body yet
abbrev pub seen : LastZero → ℕ → List Bool
seen Missing n = ones n
seen Kept n = false ∷ ones n
seen Removed n = false ∷ ones n

abbrev pub hunted : ℕ → List Bool
hunted n = cond (ltb n 7) (false ∷ ones n) []

abbrev pub behind_by : Phase → ℕ → LastZero → List Bool
behind_by Hunting n z = hunted n
behind_by Inside n z = seen z n
behind_by AfterFiveOnes n z = seen z 5

abbrev pub behind : View → List Bool
behind l = behind_by l.phase l.ones l.zero

abbrev pub Sound : View → Type 0
Sound l = SoundBy l.phase l.ones

pub sound-next : (ph : Phase) (b : Bool) (n : ℕ) (z : LastZero) (br : Bool) → SoundBy ph n → Sound (go ph b n z br)
sound-next Hunting true n z br h = cond_both (ltb n 7) (n + 1) n (λ m. m ≤ 7) (λ e. let l = ltb-true n 7 e in omega arith) (λ e. h)
sound-next Hunting false n z br h = cond_both (eqb n 6) n 0 (λ m. m ≤ 7) (λ e. h) (λ e. omega arith)
sound-next Inside true n z br h = cond_both (eqb (n + 1) 5) _ _ Sound (λ e. omega arith) (λ e. let l = eqb-false (n + 1) 5 e in omega arith)
sound-next Inside false n z br h = omega arith
sound-next AfterFiveOnes true n Missing br h = omega arith
sound-next AfterFiveOnes true n Kept br h = omega arith
sound-next AfterFiveOnes true n Removed br h = omega arith
sound-next AfterFiveOnes false n z br h = omega arith

length-ones : (n : ℕ) → length (ones n) ≡ n
length-ones n = length-replicate n true

pub seen_one : (z : LastZero) (n : ℕ) (xs : List Bool) → seen z n ++ (true ∷ xs) ≡ seen z (n + 1) ++ xs
seen_one Missing n xs = one_more n xs
seen_one Kept n xs = ap (λ t. false ∷ t) (one_more n xs)
seen_one Removed n xs = ap (λ t. false ∷ t) (one_more n xs)

length_seen : (z : LastZero) (n : ℕ) → length (seen z (n + 1)) ≡ length (seen z n) + 1
length_seen Missing n = let a = length-ones n in let b = length-ones (n + 1) in omega arith
length_seen Kept n = let a = length-ones n in let b = length-ones (n + 1) in omega arith
length_seen Removed n = let a = length-ones n in let b = length-ones (n + 1) in omega arith

-- the first flag is still to come: where it stands, told from what was seen
module _ (k : ℕ) (xs : List Bool) where
  seen-one-place : (z : LastZero) (n : ℕ) → first_flag (k - length (seen z n)) (seen z n ++ (true ∷ xs)) ≡ first_flag (k + 1 - length (seen z (n + 1))) (seen z (n + 1) ++ xs)
  seen-one-place z n = let l = length_seen z n in ap (first_flag (k - length (seen z n))) (seen_one z n xs) ∙ same_place _ _ _ (omega arith)

  seen-zero-place : (z : LastZero) (n : ℕ) → n < 6 → length (seen z n) ≤ k → first_flag (k - length (seen z n)) (seen z n ++ (false ∷ xs)) ≡ first_flag (k + 1 - 1) (false ∷ xs)
  seen-zero-place Missing n h w = let l = length-ones n in past_ones n (k - length (ones n)) (false ∷ xs) ∙ same_place _ _ _ (omega arith)
  seen-zero-place Kept n h w = let l = length-ones n in past-run n (k - suc (length (ones n))) xs h ∙ same_place _ _ _ (omega arith)
  seen-zero-place Removed n h w = let l = length-ones n in past-run n (k - suc (length (ones n))) xs h ∙ same_place _ _ _ (omega arith)

  abbrev Place : View → Option ℕ
  Place l = first_flag (k + 1 - length (behind l)) (behind l ++ xs)

  hunt_one : (n : ℕ) (z : LastZero) (br : Bool) → n ≤ 7 → length (hunted n) ≤ k → first_flag (k - length (hunted n)) (hunted n ++ (true ∷ xs)) ≡ Place (go Hunting true n z br)
  unfolding first_flag starts
  hunt_one zero z br h w = same_place (k - 1) (k + 1 - 2) (false ∷ true ∷ xs) (omega arith)
  hunt_one (suc zero) z br h w = same_place (k - 2) (k + 1 - 3) (false ∷ (ones 2 ++ xs)) (omega arith)
  hunt_one (suc (suc zero)) z br h w = same_place (k - 3) (k + 1 - 4) (false ∷ (ones 3 ++ xs)) (omega arith)
  hunt_one (suc (suc (suc zero))) z br h w = same_place (k - 4) (k + 1 - 5) (false ∷ (ones 4 ++ xs)) (omega arith)
  hunt_one (suc (suc (suc (suc zero)))) z br h w = same_place (k - 5) (k + 1 - 6) (false ∷ (ones 5 ++ xs)) (omega arith)
  hunt_one (suc (suc (suc (suc (suc zero))))) z br h w = same_place (k - 6) (k + 1 - 7) (false ∷ (ones 6 ++ xs)) (omega arith)
  hunt_one (suc (suc (suc (suc (suc (suc zero)))))) z br h w = past_seven (k - 7) xs ∙ same_place (k - 7 + 8) (k + 1 - 0) xs (omega arith)
  hunt_one (suc (suc (suc (suc (suc (suc (suc zero))))))) z br h w = same_place (k - 0 + 1) (k + 1 - 0) xs (omega arith)
  hunt_one (suc (suc (suc (suc (suc (suc (suc (suc n)))))))) z br h w = absurd (omega arith)

  hunt_zero : (n : ℕ) (z : LastZero) (br : Bool) → n ≤ 7 → length (hunted n) ≤ k → (tell Hunting false n ≡ Flag → ⊥) → first_flag (k - length (hunted n)) (hunted n ++ (false ∷ xs)) ≡ Place (go Hunting false n z br)
  hunt_zero zero z br h w f = past-run 0 (k - 1) xs (omega arith) ∙ same_place (k - 1 + (0 + 1)) (k + 1 - 1) (false ∷ xs) (omega arith)
  hunt_zero (suc zero) z br h w f = past-run 1 (k - 2) xs (omega arith) ∙ same_place (k - 2 + (1 + 1)) (k + 1 - 1) (false ∷ xs) (omega arith)
  hunt_zero (suc (suc zero)) z br h w f = past-run 2 (k - 3) xs (omega arith) ∙ same_place (k - 3 + (2 + 1)) (k + 1 - 1) (false ∷ xs) (omega arith)
  hunt_zero (suc (suc (suc zero))) z br h w f = past-run 3 (k - 4) xs (omega arith) ∙ same_place (k - 4 + (3 + 1)) (k + 1 - 1) (false ∷ xs) (omega arith)
  hunt_zero (suc (suc (suc (suc zero)))) z br h w f = past-run 4 (k - 5) xs (omega arith) ∙ same_place (k - 5 + (4 + 1)) (k + 1 - 1) (false ∷ xs) (omega arith)
  hunt_zero (suc (suc (suc (suc (suc zero))))) z br h w f = past-run 5 (k - 6) xs (omega arith) ∙ same_place (k - 6 + (5 + 1)) (k + 1 - 1) (false ∷ xs) (omega arith)
  hunt_zero (suc (suc (suc (suc (suc (suc zero)))))) z br h w f = absurd (f refl)
  hunt_zero (suc (suc (suc (suc (suc (suc (suc zero))))))) z br h w f = same_place (k - 0) (k + 1 - 1) (false ∷ xs) (omega arith)
  hunt_zero (suc (suc (suc (suc (suc (suc (suc (suc n)))))))) z br h w f = absurd (omega arith)

  place-next : (ph : Phase) (b : Bool) (n : ℕ) (z : LastZero) (br : Bool) → SoundBy ph n → length (behind_by ph n z) ≤ k → (tell ph b n ≡ Flag → ⊥)
      → first_flag (k - length (behind_by ph n z)) (behind_by ph n z ++ (b ∷ xs)) ≡ Place (go ph b n z br)
  place-next Hunting true n z br h w f = hunt_one n z br h w
  place-next Hunting false n z br h w f = hunt_zero n z br h w f
  place-next Inside true n z br h w f =
      cond_both (eqb (n + 1) 5) _ _ (λ l. first_flag (k - length (seen z n)) (seen z n ++ (true ∷ xs)) ≡ Place l)
      (λ e. let five = eqb-true (n + 1) 5 e in seen-one-place z n ∙ ap (λ m. first_flag (k + 1 - length (seen z m)) (seen z m ++ xs)) five)
      (λ e. seen-one-place z n)
  place-next Inside false n z br h w f = seen-zero-place z n (omega arith) w
  place-next AfterFiveOnes true n Missing br h w f = past_ones 6 (k - 5) xs ∙ same_place (k - 5 + 6) (k + 1 - 0) xs (omega arith)
  place-next AfterFiveOnes true n Kept br h w f = seen-one-place Kept 5
  place-next AfterFiveOnes true n Removed br h w f = seen-one-place Removed 5
  place-next AfterFiveOnes false n z br h w f = seen-zero-place z 5 (omega arith) w

-- the first flag, where the listener goes on without having found one
pub goes_on : (l : View) (b : Bool) (k : ℕ) (xs : List Bool) → Sound l → length (behind l) ≤ k → (sign l b ≡ Flag → ⊥)
    → first_flag (k - length (behind l)) (behind l ++ (b ∷ xs)) ≡ first_flag (k + 1 - length (behind (next l b))) (behind (next l b) ++ xs)
goes_on l b k xs h w f = place-next k xs l.phase b l.ones l.zero l.broken h w f

-- at each bit what was seen grows by one bit at most
hunt_grows : (n : ℕ) (z : LastZero) (br : Bool) → n ≤ 7 → length (behind (go Hunting true n z br)) ≤ length (hunted n) + 1
hunt_grows zero z br h = omega arith
hunt_grows (suc zero) z br h = omega arith
hunt_grows (suc (suc zero)) z br h = omega arith
hunt_grows (suc (suc (suc zero))) z br h = omega arith
hunt_grows (suc (suc (suc (suc zero)))) z br h = omega arith
hunt_grows (suc (suc (suc (suc (suc zero))))) z br h = omega arith
hunt_grows (suc (suc (suc (suc (suc (suc zero)))))) z br h = omega arith
hunt_grows (suc (suc (suc (suc (suc (suc (suc zero))))))) z br h = omega arith
hunt_grows (suc (suc (suc (suc (suc (suc (suc (suc n)))))))) z br h = absurd (omega arith)

grows-by : (ph : Phase) (b : Bool) (n : ℕ) (z : LastZero) (br : Bool) → SoundBy ph n → length (behind (go ph b n z br)) ≤ length (behind_by ph n z) + 1
grows-by Hunting true n z br h = hunt_grows n z br h
grows-by Hunting false n z br h = cond_both (eqb n 6) n 0 (λ m. length (hunted m) ≤ length (hunted n) + 1) (λ e. omega arith) (λ e. omega arith)
grows-by Inside true n z br h =
    cond_both (eqb (n + 1) 5) _ _ (λ l. length (behind l) ≤ length (seen z n) + 1)
    (λ e. let five = eqb-true (n + 1) 5 e in let l = length_seen z n in subst (λ m. length (seen z m) ≤ length (seen z n) + 1) five (omega arith))
    (λ e. let l = length_seen z n in omega arith)
grows-by Inside false n z br h = omega arith
grows-by AfterFiveOnes true n Missing br h = omega arith
grows-by AfterFiveOnes true n Kept br h = omega arith
grows-by AfterFiveOnes true n Removed br h = omega arith
grows-by AfterFiveOnes false n z br h = omega arith

pub grows : (l : View) (b : Bool) → Sound l → length (behind (next l b)) ≤ length (behind l) + 1
grows l b h = grows-by l.phase b l.ones l.zero l.broken h

-- and it is never eight bits long
short-seen : (z : LastZero) (n : ℕ) → n ≤ 5 → length (seen z n) ≤ 7
short-seen Missing n h = let l = length-ones n in omega arith
short-seen Kept n h = let l = length-ones n in omega arith
short-seen Removed n h = let l = length-ones n in omega arith

short-by : (ph : Phase) (n : ℕ) (z : LastZero) → SoundBy ph n → length (behind_by ph n z) ≤ 7
short-by Hunting n z h = cond_both (ltb n 7) (false ∷ ones n) [] (λ xs. length xs ≤ 7) (λ e. let g = ltb-true n 7 e in let l = length-ones n in omega arith) (λ e. omega arith)
short-by Inside n z h = short-seen z n (omega arith)
short-by AfterFiveOnes n z h = short-seen z 5 (omega arith)

pub short : (l : View) → Sound l → length (behind l) ≤ 7
short l h = short-by l.phase l.ones l.zero h

-- a flag ends at a 0 behind six 1s, while hunting
nothing-flag : Nothing ≡ Flag → ⊥
nothing-flag e = let z : ◌≡◌ {A = ℕ} 0 1 = cc in omega arith

bit_flag : Bit ≡ Flag → ⊥
bit_flag e = let z : ◌≡◌ {A = ℕ} 0 1 = cc in omega arith

pub record Flagged (ph : Phase) (b : Bool) (n : ℕ) : Type 0 where
  pub hunting : ph ≡ Hunting
  pub off : b ≡ false
  pub six : n ≡ 6

flag_by : (ph : Phase) (b : Bool) (n : ℕ) → tell ph b n ≡ Flag → Flagged ph b n
flag_by Hunting true n e = absurd (nothing-flag e)
flag_by Hunting false n e =
    elim (cases_Bool (eqb n 6)) [
      | inl t ↦ record { hunting = refl; off = refl; six = eqb-true n 6 t }
      | inr t ↦ absurd (nothing-flag (sym (cond-false _ _ _ t) ∙ e))
    ]
flag_by Inside true n e = absurd (bit_flag e)
flag_by Inside false n e = absurd (bit_flag e)
flag_by AfterFiveOnes true n e = absurd (nothing-flag e)
flag_by AfterFiveOnes false n e = absurd (nothing-flag e)

pub flagged : (l : View) (b : Bool) → sign l b ≡ Flag → Flagged l.phase b l.ones
flagged l b e = flag_by l.phase b l.ones e

-- the part of what was seen that stays
abbrev pub kept : LastZero → ℕ → List Bool
kept Missing n = ones n
kept Kept n = false ∷ ones n
kept Removed n = ones n

-- what unstuffing makes of what stands in front of the first flag, by the 0 that comes first
abbrev pub rest : LastZero → List Bool → Option (List Bool)
rest Missing xs = then (front xs) (unstuff 5)
rest Kept xs = then (front xs) (unstuff 5)
rest Removed xs = then (front xs) (unstuff 0)

-- the whole body unstuffed
abbrev pub unstuffs : List Bool → Option (List Bool)
unstuffs body = then (front body) (unstuff 5)

kept-one : (z : LastZero) (n : ℕ) → kept z n ++ true ∷ [] ≡ kept z (n + 1)
kept-one Missing n = replicate_more n true
kept-one Kept n = ap (λ t. false ∷ t) (replicate_more n true)
kept-one Removed n = replicate_more n true

-- a 0 behind n 1s: these stay, and what follows is told from the 0 on
unstuff-run : (n m : ℕ) (w : List Bool) → n + m ≡ 5 → unstuff 5 (ones n ++ w) ≡ prepend (ones n) (unstuff m w)
unstuff-run n m w e = rw (← e) (unstuff-ones n m w)

rest-run : (z : LastZero) (n m : ℕ) (xs : List Bool) → n + m ≡ 5 → rest z (seen z n ++ (false ∷ xs)) ≡ prepend (kept z n) (then (front (false ∷ xs)) (unstuff m))
unfolding unstuff
rest-run Missing n m xs e =
    ap (λ x. then x (unstuff 5)) (front-ones n (false ∷ xs)) ∙ then-prepend (ones n) (front (false ∷ xs)) (unstuff 5)
    ∙ prepend-then (ones n) (front (false ∷ xs)) (λ w. unstuff 5 (ones n ++ w)) (unstuff m) (λ w. unstuff-run n m w e)
rest-run Kept n m xs e =
    ap (λ x. then x (unstuff 5)) (front-run n xs (omega arith)) ∙ then-prepend (false ∷ ones n) (front (false ∷ xs)) (unstuff 5)
    ∙ prepend-then (false ∷ ones n) (front (false ∷ xs)) (λ w. unstuff 5 (false ∷ (ones n ++ w))) (unstuff m)
    (λ w. ap (prepend (false ∷ [])) (unstuff-run n m w e) ∙ prepend-prepend (false ∷ []) (ones n) _)
rest-run Removed n m xs e =
    ap (λ x. then x (unstuff 0)) (front-run n xs (omega arith)) ∙ then-prepend (false ∷ ones n) (front (false ∷ xs)) (unstuff 0)
    ∙ prepend-then (ones n) (front (false ∷ xs)) (λ w. unstuff 0 (false ∷ (ones n ++ w))) (unstuff m) (λ w. unstuff-run n m w e)

-- a 0 that stays, behind four 1s at most
rest-kept : (z : LastZero) (n : ℕ) (xs : List Bool) → n ≤ 4 → rest z (seen z n ++ (false ∷ xs)) ≡ prepend (kept z n) (rest Kept (false ∷ xs))
rest-kept z n xs h =
    let s : 5 - n ≡ suc (4 - n) = omega arith in
    rest-run z n (5 - n) xs (omega arith) ∙ ap (λ m. prepend (kept z n) (then (front (false ∷ xs)) (unstuff m))) s ∙ ap (prepend (kept z n)) (any-ones (4 - n) xs)

-- a 0 that goes, behind five
rest_removed : (z : LastZero) (xs : List Bool) → rest z (seen z 5 ++ (false ∷ xs)) ≡ prepend (kept z 5) (rest Removed (false ∷ xs))
rest_removed z xs = rest-run z 5 0 xs refl

-- six 1s with no 0 in front of them
six_wrong : (xs : List Bool) → rest Missing (ones 6 ++ xs) ≡ None
six_wrong xs = ap (λ x. then x (unstuff 5)) (front-ones 6 xs) ∙ then-prepend (ones 6) (front xs) (unstuff 5) ∙ then-nothing (front xs) (λ w. unstuff 5 (ones 6 ++ w)) unstuff-six

-- six 1s behind a 0 that goes: a flag there would take that 0, and any more are too many
six-after : (xs : List Bool) → rest Removed (false ∷ (ones 6 ++ xs)) ≡ None
unfolding front starts unstuff
six-after [] = refl
six-after (false ∷ xs) = refl
six-after (true ∷ xs) = ap (λ x. then (prepend (false ∷ []) x) (unstuff 0)) (front-ones 7 xs) ∙ ap (λ x. then x (unstuff 0)) (prepend-prepend (false ∷ []) (ones 7) (front xs)) ∙ then-prepend (false ∷ ones 7) (front xs) _
    ∙ then-nothing (front xs) _ (λ w. refl)

-- seven 1s
seven_wrong : (xs : List Bool) → rest Kept (false ∷ (ones 7 ++ xs)) ≡ None
unfolding front starts unstuff
seven_wrong xs = ap (λ x. then (prepend (false ∷ []) x) (unstuff 5)) (front-ones 7 xs) ∙ ap (λ x. then x (unstuff 5)) (prepend-prepend (false ∷ []) (ones 7) (front xs)) ∙ then-prepend (false ∷ ones 7) (front xs) _
    ∙ then-nothing (front xs) _ (λ w. refl)

-- a flag
flag_now : (xs : List Bool) → rest Kept (false ∷ (ones 6 ++ (false ∷ xs))) ≡ Some []
unfolding front starts unstuff
flag_now xs = refl

-- a body that is right so far: its bits that stay are packed, n of the 1s behind the last 0 among them, and m of these were seen
pub record Right (z : LastZero) (n m : ℕ) (packed body more : List Bool) : Type 0 where
  pub before : List Bool
  pub holds : packed ≡ before ++ kept z n
  pub comes : unstuffs body ≡ prepend before (rest z (seen z m ++ more))

-- hunting in a body that is right so far: six 1s stand behind a 0 that stayed
pub record Doubtful (n : ℕ) (z : LastZero) (packed body more : List Bool) : Type 0 where
  pub six : n ≡ 6
  pub zero : z ≡ Kept
  pub right : Right Kept 5 6 packed body more

abbrev pub RightBy : Phase → ℕ → LastZero → List Bool → List Bool → List Bool → Type 0
RightBy Hunting n z packed body more = Doubtful n z packed body more
RightBy Inside n z packed body more = Right z n n packed body more
RightBy AfterFiveOnes n z packed body more = Right z 5 5 packed body more

-- what the listener tells of a body: it is right so far, or broken
abbrev pub TellsBy : Bool → Phase → ℕ → LastZero → List Bool → List Bool → List Bool → Type 0
TellsBy false ph n z packed body more = RightBy ph n z packed body more
TellsBy true ph n z packed body more = unstuffs body ≡ None

abbrev pub Tells : View → List Bool → List Bool → List Bool → Type 0
Tells l packed body more = TellsBy l.broken l.phase l.ones l.zero packed body more

-- the bits that stay, after one more
abbrev pub packs : Sign → List Bool → Bool → List Bool
packs Nothing packed b = packed
packs Bit packed b = packed ++ b ∷ []
packs Flag packed b = packed

append-append : (x y : List Bool) (b : Bool) → (x ++ y) ++ b ∷ [] ≡ x ++ (y ++ b ∷ [])
append-append x y b = append_assoc x y (b ∷ [])

module _ (packed body xs : List Bool) where
  -- one more 1 stays
  right-one : (z : LastZero) (n : ℕ) → Right z n n packed body (true ∷ xs) → Right z (n + 1) (n + 1) (packed ++ true ∷ []) body xs
  right-one z n r =
      record {
        before = r.before;
        holds = ap (λ t. t ++ true ∷ []) r.holds ∙ append-append r.before (kept z n) true ∙ ap (λ t. r.before ++ t) (kept-one z n);
        comes = r.comes ∙ ap (λ t. prepend r.before (rest z t)) (seen_one z n xs);
      }

  -- a 0 stays
  right_zero : (z : LastZero) (n : ℕ) → n ≤ 4 → Right z n n packed body (false ∷ xs) → Right Kept 0 0 (packed ++ false ∷ []) body xs
  right_zero z n h r =
      record {
        before = r.before ++ kept z n;
        holds = ap (λ t. t ++ false ∷ []) r.holds;
        comes = r.comes ∙ ap (prepend r.before) (rest-kept z n xs h) ∙ prepend-prepend r.before (kept z n) _;
      }

  -- a 0 goes
  right_removed : (z : LastZero) → Right z 5 5 packed body (false ∷ xs) → Right Removed 0 0 packed body xs
  right_removed z r =
      record {
        before = r.before ++ kept z 5;
        holds = r.holds ∙ sym (append-nil (r.before ++ kept z 5));
        comes = r.comes ∙ ap (prepend r.before) (rest_removed z xs) ∙ prepend-prepend r.before (kept z 5) _;
      }

  -- a sixth 1
  tells-sixth : (z : LastZero) → Right z 5 5 packed body (true ∷ xs) → Tells (sixth false z) packed body xs
  tells-sixth Missing r = r.comes ∙ ap (prepend r.before) (six_wrong xs)
  tells-sixth Kept r = record { six = refl; zero = refl; right = record { before = r.before; holds = r.holds; comes = r.comes } }
  tells-sixth Removed r = r.comes ∙ ap (prepend r.before) (six-after xs)

  -- and a seventh
  tells_seventh : (n : ℕ) (z : LastZero) → Doubtful n z packed body (true ∷ xs) → Tells (go Hunting true n z false) packed body xs
  tells_seventh n z d =
      let r = d.right in
      let none : unstuffs body ≡ None = r.comes ∙ ap (prepend r.before) (seven_wrong xs) in
      let t : cond (eqb n 6) true false ≡ true = cond-true (eqb n 6) true false (eq-eqb n 6 d.six) in
      subst (λ br. TellsBy br Hunting (cond (ltb n 7) (n + 1) n) z packed body xs) (sym t) none

  tells-right : (ph : Phase) (b : Bool) (n : ℕ) (z : LastZero) → SoundBy ph n → (tell ph b n ≡ Flag → ⊥) → RightBy ph n z packed body (b ∷ xs)
      → Tells (go ph b n z false) (packs (tell ph b n) packed b) body xs
  tells-right Hunting true n z h f r = tells_seventh n z r
  tells-right Hunting false n z h f r = absurd (f (cond-true (eqb n 6) Flag Nothing (eq-eqb n 6 r.six)))
  tells-right Inside true n z h f r =
      cond_both (eqb (n + 1) 5) _ _ (λ l. Tells l (packed ++ true ∷ []) body xs)
      (λ e. let five = eqb-true (n + 1) 5 e in subst (λ m. Right z m m (packed ++ true ∷ []) body xs) five (right-one z n r))
      (λ e. right-one z n r)
  tells-right Inside false n z h f r = right_zero z n h r
  tells-right AfterFiveOnes true n z h f r = tells-sixth z r
  tells-right AfterFiveOnes false n z h f r = right_removed z r

  -- what is broken stays so
  tells-broken : (ph : Phase) (b : Bool) (n : ℕ) (z : LastZero) (p : List Bool) → unstuffs body ≡ None → Tells (go ph b n z true) p body xs
  tells-broken Hunting true n z p e = cond_both (eqb n 6) true true (λ br. TellsBy br Hunting (cond (ltb n 7) (n + 1) n) z p body xs) (λ _. e) (λ _. e)
  tells-broken Hunting false n z p e = e
  tells-broken Inside true n z p e = cond_both (eqb (n + 1) 5) _ _ (λ l. Tells l p body xs) (λ _. e) (λ _. e)
  tells-broken Inside false n z p e = e
  tells-broken AfterFiveOnes true n Missing p e = e
  tells-broken AfterFiveOnes true n Kept p e = e
  tells-broken AfterFiveOnes true n Removed p e = e
  tells-broken AfterFiveOnes false n z p e = e

  tells-by : (br : Bool) (ph : Phase) (b : Bool) (n : ℕ) (z : LastZero) → SoundBy ph n → (tell ph b n ≡ Flag → ⊥) → TellsBy br ph n z packed body (b ∷ xs)
      → Tells (go ph b n z br) (packs (tell ph b n) packed b) body xs
  tells-by true ph b n z h f t = tells-broken ph b n z _ t
  tells-by false ph b n z h f t = tells-right ph b n z h f t

pub tells-on : (l : View) (b : Bool) (packed body xs : List Bool) → Sound l → (sign l b ≡ Flag → ⊥) → Tells l packed body (b ∷ xs)
    → Tells (next l b) (packs (sign l b) packed b) body xs
tells-on l b packed body xs h f t = tells-by packed body xs l.broken l.phase b l.ones l.zero h f t

-- at the start of a body
pub tells_first : (body : List Bool) → Tells (record { phase = Inside; ones = 0; zero = Missing; broken = false }) [] body body
tells_first body = record { before = []; holds = refl; comes = sym (prepend-none (unstuffs body)) }

-- at the flag: the bits that stay are those before the flag's first six
closes-right : (n : ℕ) (z : LastZero) (packed body xs : List Bool) → Doubtful n z packed body (false ∷ xs) → (bits : List Bool) × (unstuffs body ≡ Some bits) × (packed ≡ bits ++ (false ∷ ones 5))
closes-right n z packed body xs d =
    let r = d.right in
    (r.before, r.comes ∙ ap (prepend r.before) (flag_now xs) ∙ ap (λ t. Some t) (append-nil r.before), r.holds)

-- what the listener tells at a flag
abbrev pub Closing : Bool → List Bool → List Bool → Type 0
Closing true packed body = unstuffs body ≡ None
Closing false packed body = (bits : List Bool) × (unstuffs body ≡ Some bits) × (packed ≡ bits ++ (false ∷ ones 5))

inside-hunting : Inside ≡ Hunting → ⊥
inside-hunting e = let z : ◌≡◌ {A = ℕ} 0 1 = cc in omega arith

after-hunting : AfterFiveOnes ≡ Hunting → ⊥
after-hunting e = let z : ◌≡◌ {A = ℕ} 0 1 = cc in omega arith

closes_by_lem : (br : Bool) (ph : Phase) (n : ℕ) (z : LastZero) (packed body xs : List Bool) → ph ≡ Hunting → TellsBy br ph n z packed body (false ∷ xs) → Closing br packed body
closes_by_lem true ph n z packed body xs e t = t
closes_by_lem false Hunting n z packed body xs e t = closes-right n z packed body xs t
closes_by_lem false Inside n z packed body xs e t = absurd (inside-hunting e)
closes_by_lem false AfterFiveOnes n z packed body xs e t = absurd (after-hunting e)

pub closes_at : (l : View) (b : Bool) (packed body xs : List Bool) → sign l b ≡ Flag → Tells l packed body (b ∷ xs) → Closing l.broken packed body
closes_at l b packed body xs s t =
    let f = flagged l b s in
    closes_by_lem l.broken l.phase l.ones l.zero packed body xs f.hunting (subst (λ c. Tells l packed body (c ∷ xs)) f.off t)

-- and the place of that flag
place-by : (ph : Phase) (n : ℕ) (z : LastZero) (k : ℕ) (xs : List Bool) → ph ≡ Hunting → n ≡ 6 → first_flag (k - length (behind_by ph n z)) (behind_by ph n z ++ (false ∷ xs)) ≡ Some (k - 7)
unfolding first_flag starts
place-by ph n z k xs e f = rw (e, f)

pub flag-place : (l : View) (b : Bool) (k : ℕ) (xs : List Bool) → sign l b ≡ Flag → first_flag (k - length (behind l)) (behind l ++ (b ∷ xs)) ≡ Some (k - 7)
flag-place l b k xs s =
    let f = flagged l b s in
    ap (λ c. first_flag (k - length (behind l)) (behind l ++ (c ∷ xs))) f.off ∙ place-by l.phase l.ones l.zero k xs f.hunting f.six

seven_by : (ph : Phase) (n : ℕ) (z : LastZero) → ph ≡ Hunting → n ≡ 6 → length (behind_by ph n z) ≡ 7
seven_by ph n z e f = rw (e, f)

-- seven bits of it were seen
pub seven_seen : (l : View) (b : Bool) → sign l b ≡ Flag → length (behind l) ≡ 7
seven_seen l b s = let f = flagged l b s in seven_by l.phase l.ones l.zero f.hunting f.six

broken-by : (ph : Phase) (b : Bool) (n : ℕ) (z : LastZero) (br : Bool) → Flagged ph b n → (go ph b n z br).broken ≡ br
broken-by ph b n z br f = let e = f.hunting in let g = f.off in rw (e, g)

-- at a flag the listener still says whether the body was broken
pub broken-same : (l : View) (b : Bool) → sign l b ≡ Flag → (next l b).broken ≡ l.broken
broken-same l b s = broken-by l.phase b l.ones l.zero l.broken (flagged l b s)

-- what is neither a flag nor a bit that stays leaves the bits as they are
pub not_a_bit : (s : Sign) (packed : List Bool) (b : Bool) → (s ≡ Flag → ⊥) → (s ≡ Bit → ⊥) → packed ≡ packs s packed b
not_a_bit Nothing packed b f g = refl
not_a_bit Bit packed b f g = absurd (g refl)
not_a_bit Flag packed b f g = absurd (f refl)
