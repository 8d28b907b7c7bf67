-- Stuffing and its way back.
use Rattle.std.proofs.Common.{◌≡◌, ℕ, zero, suc, Bool, true, false, List, [], ◌∷◌, Some, None, Option, sym, refl, ap, ◌∙◌, arith}
use Rattle.line.specs.Stuffing.{stuff, unstuff, prepend}
use Rattle.line_laws.specs.Passing.{Unstuffing}

pub stuff-back : (n : ℕ) (bits : List Bool) → unstuff (suc n) (stuff n bits) ≡ Some bits
unfolding stuff unstuff
stuff-back zero [] = refl
stuff-back (suc n) [] = refl
stuff-back zero (false ∷ bits) = ap (prepend (false ∷ [])) (stuff-back 4 bits)
stuff-back (suc n) (false ∷ bits) = ap (prepend (false ∷ [])) (stuff-back 4 bits)
stuff-back zero (true ∷ bits) = ap (prepend (true ∷ [])) (stuff-back 4 bits)
stuff-back (suc n) (true ∷ bits) = ap (prepend (true ∷ [])) (stuff-back n bits)

nothing : (x : List Bool) → None ≡ Some x → ⊥
nothing x e = let z : ◌≡◌ {A = ℕ} 0 1 = cc in omega arith

-- what is left once a bit is taken off
prepended : (b : Bool) (o : Option (List Bool)) (bits : List Bool) → prepend (b ∷ []) o ≡ Some bits → (rest : List Bool) × (o ≡ Some rest) × (bits ≡ b ∷ rest)
prepended b None bits e = absurd (nothing bits e)
prepended b (Some rest) bits e = (rest, refl, cc)

pub unstuff-back : (n : ℕ) (body bits : List Bool) → unstuff (suc n) body ≡ Some bits → body ≡ stuff n bits
unfolding stuff unstuff
unstuff-back zero [] bits e = let z : [] ≡ bits = cc in ap (stuff 0) z
unstuff-back (suc n) [] bits e = let z : [] ≡ bits = cc in ap (stuff (suc n)) z
unstuff-back zero (false ∷ body) bits e =
    let p = prepended false (unstuff 5 body) bits e in
    ap (λ t. false ∷ t) (unstuff-back 4 body p.0 p.1) ∙ ap (stuff 0) (sym p.2)
unstuff-back (suc n) (false ∷ body) bits e =
    let p = prepended false (unstuff 5 body) bits e in
    ap (λ t. false ∷ t) (unstuff-back 4 body p.0 p.1) ∙ ap (stuff (suc n)) (sym p.2)
unstuff-back zero (true ∷ []) bits e = absurd (nothing bits e)
unstuff-back zero (true ∷ true ∷ body) bits e = absurd (nothing bits e)
unstuff-back zero (true ∷ false ∷ body) bits e =
    let p = prepended true (unstuff 5 body) bits e in
    ap (λ t. true ∷ false ∷ t) (unstuff-back 4 body p.0 p.1) ∙ ap (stuff 0) (sym p.2)
unstuff-back (suc n) (true ∷ body) bits e =
    let p = prepended true (unstuff (suc n) body) bits e in
    ap (λ t. true ∷ t) (unstuff-back n body p.0 p.1) ∙ ap (stuff (suc n)) (sym p.2)

pub unstuffing_told : (body bits : List Bool) → Unstuffing body bits
unstuffing_told body bits =
    record {
      told = unstuff-back 4 body bits;
      only = λ e. ap (unstuff 5) e ∙ stuff-back 4 bits;
    }
