-- Runs of 1s: where flags can stand among them, and what unstuffing makes of them.
use Rattle.std.proofs.Common.{◌≡◌, ℕ, zero, suc, ◌+◌, ◌<◌, Bool, true, false, cond, List, [], ◌∷◌, ◌++◌, replicate, Some, None, Option, sym, refl, ap, ◌∙◌, append_assoc, arith}
use Rattle.std.proofs.lemmas.Bool.{cond-false}
use Rattle.line.specs.Flags.{flag, starts, first_flag}
use Rattle.line.specs.Stuffing.{unstuff, prepend}

-- n 1s
abbrev pub ones : ℕ → List Bool
ones n = replicate n true

pub same_place : (a b : ℕ) (xs : List Bool) → a ≡ b → first_flag a xs ≡ first_flag b xs
same_place a b xs e = ap (λ j. first_flag j xs) e

pub one_more : (n : ℕ) (xs : List Bool) → ones n ++ (true ∷ xs) ≡ ones (n + 1) ++ xs
one_more zero xs = refl
one_more (suc n) xs = let e : suc n + 1 ≡ suc (n + 1) = omega arith in rw e (ap (λ z. true ∷ z) (one_more n xs))

-- no flag begins with a 1
pub past_ones : (n k : ℕ) (xs : List Bool) → first_flag k (ones n ++ xs) ≡ first_flag (k + n) xs
unfolding first_flag starts
past_ones zero k xs = same_place k (k + 0) xs (omega arith)
past_ones (suc n) k xs = past_ones n (k + 1) xs ∙ same_place (k + 1 + n) (k + suc n) xs (omega arith)

-- a 0 with fewer than six 1s behind it, and another 0, begins no flag
pub few_ones : (n : ℕ) (xs : List Bool) → n < 6 → starts flag (false ∷ (ones n ++ (false ∷ xs))) ≡ false
unfolding starts
few_ones zero xs h = refl
few_ones (suc zero) xs h = refl
few_ones (suc (suc zero)) xs h = refl
few_ones (suc (suc (suc zero))) xs h = refl
few_ones (suc (suc (suc (suc zero)))) xs h = refl
few_ones (suc (suc (suc (suc (suc zero))))) xs h = refl
few_ones (suc (suc (suc (suc (suc (suc n)))))) xs h = absurd (omega arith)

pub past-run : (n k : ℕ) (xs : List Bool) → n < 6 → first_flag k (false ∷ (ones n ++ (false ∷ xs))) ≡ first_flag (k + (n + 1)) (false ∷ xs)
unfolding first_flag
past-run n k xs h = cond-false _ _ _ (few_ones n xs h) ∙ past_ones n (k + 1) (false ∷ xs) ∙ same_place (k + 1 + n) (k + (n + 1)) (false ∷ xs) (omega arith)

-- nor does one with seven
pub past_seven : (k : ℕ) (xs : List Bool) → first_flag k (false ∷ (ones 7 ++ xs)) ≡ first_flag (k + 8) xs
unfolding first_flag starts
past_seven k xs = past_ones 7 (k + 1) xs ∙ same_place (k + 1 + 7) (k + 8) xs (omega arith)

-- what stands in front of the first flag
unfoldable pub front : List Bool → Option (List Bool)
front [] = None
front (b ∷ bits) = cond (starts flag (b ∷ bits)) (Some []) (prepend (b ∷ []) (front bits))

abbrev pub then : Option (List Bool) → (List Bool → Option (List Bool)) → Option (List Bool)
then None f = None
then (Some x) f = f x

pub prepend-prepend : (s t : List Bool) (x : Option (List Bool)) → prepend s (prepend t x) ≡ prepend (s ++ t) x
prepend-prepend s t None = refl
prepend-prepend s t (Some x) = ap (λ y. Some y) (sym (append_assoc s t x))

pub prepend-none : (x : Option (List Bool)) → prepend [] x ≡ x
prepend-none None = refl
prepend-none (Some x) = refl

pub then-prepend : (s : List Bool) (x : Option (List Bool)) (f : List Bool → Option (List Bool)) → then (prepend s x) f ≡ then x (λ w. f (s ++ w))
then-prepend s None f = refl
then-prepend s (Some x) f = refl

pub prepend-then : (s : List Bool) (x : Option (List Bool)) (f g : List Bool → Option (List Bool)) → ((w : List Bool) → f w ≡ prepend s (g w)) → then x f ≡ prepend s (then x g)
prepend-then s None f g e = refl
prepend-then s (Some x) f g e = e x

pub then-nothing : (x : Option (List Bool)) (f : List Bool → Option (List Bool)) → ((w : List Bool) → f w ≡ None) → then x f ≡ None
then-nothing None f e = refl
then-nothing (Some x) f e = e x

pub front-ones : (n : ℕ) (xs : List Bool) → front (ones n ++ xs) ≡ prepend (ones n) (front xs)
unfolding front starts
front-ones zero xs = sym (prepend-none (front xs))
front-ones (suc n) xs = ap (prepend (true ∷ [])) (front-ones n xs) ∙ prepend-prepend (true ∷ []) (ones n) (front xs)

pub front-run : (n : ℕ) (xs : List Bool) → n < 6 → front (false ∷ (ones n ++ (false ∷ xs))) ≡ prepend (false ∷ ones n) (front (false ∷ xs))
unfolding front
front-run n xs h =
    cond-false _ _ _ (few_ones n xs h) ∙ ap (prepend (false ∷ [])) (front-ones n (false ∷ xs)) ∙ prepend-prepend (false ∷ []) (ones n) (front (false ∷ xs))

-- 1s that stay, and then m more may come
pub unstuff-ones : (n m : ℕ) (w : List Bool) → unstuff (n + m) (ones n ++ w) ≡ prepend (ones n) (unstuff m w)
unfolding unstuff
unstuff-ones zero m w = let e : 0 + m ≡ m = omega arith in rw e (sym (prepend-none (unstuff m w)))
unstuff-ones (suc n) m w =
    let e : suc n + m ≡ suc (n + m) = omega arith in
    rw e (ap (prepend (true ∷ [])) (unstuff-ones n m w) ∙ prepend-prepend (true ∷ []) (ones n) (unstuff m w))

-- six 1s are never right
pub unstuff-six : (w : List Bool) → unstuff 5 (ones 6 ++ w) ≡ None
unfolding unstuff
unstuff-six w = refl

-- in front of the first flag in what begins with a 0 stands nothing, or what begins with that 0: so it is the same how many 1s may still come
zero-first : (n : ℕ) (t : Bool) (x : Option (List Bool)) → then (cond t (Some []) (prepend (false ∷ []) x)) (unstuff (suc n)) ≡ then (cond t (Some []) (prepend (false ∷ []) x)) (unstuff 5)
unfolding unstuff
zero-first n true x = refl
zero-first n false None = refl
zero-first n false (Some x) = refl

pub any-ones : (n : ℕ) (xs : List Bool) → then (front (false ∷ xs)) (unstuff (suc n)) ≡ then (front (false ∷ xs)) (unstuff 5)
unfolding front
any-ones n xs = zero-first n (starts flag (false ∷ xs)) (front xs)
