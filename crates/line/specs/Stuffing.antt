-- Stuffing: a 0 goes in behind each five 1s, and comes out again.
use Rattle.std.specs.Prelude.{ℕ, zero, suc, Bool, true, false, List, [], ◌∷◌, ◌++◌, Some, None, Option}

-- bits with their stuffing, where n + 1 more 1s bring a 0
unfoldable pub stuff : ℕ → List Bool → List Bool
stuff n [] = []
stuff n (false ∷ bits) = false ∷ stuff 4 bits
stuff zero (true ∷ bits) = true ∷ false ∷ stuff 4 bits
stuff (suc n) (true ∷ bits) = true ∷ stuff n bits

-- bits as they are sent, with a 0 behind each five 1s
abbrev pub stuffed : List Bool → List Bool
stuffed bits = stuff 4 bits

-- the bits seen so far in front of those that follow, if these are right
abbrev pub prepend : List Bool → Option (List Bool) → Option (List Bool)
prepend seen None = None
prepend seen (Some bits) = Some (seen ++ bits)

-- behind n more 1s a 0 has to stand, and comes out
unfoldable pub unstuff : ℕ → List Bool → Option (List Bool)
unstuff zero [] = None
unstuff (suc n) [] = Some []
unstuff zero (false ∷ bits) = unstuff 5 bits
unstuff zero (true ∷ bits) = None
unstuff (suc n) (false ∷ bits) = prepend (false ∷ []) (unstuff 5 bits)
unstuff (suc n) (true ∷ bits) = prepend (true ∷ []) (unstuff n bits)

-- the bits of which a body is the stuffed form, if there are any
abbrev pub unstuffed : List Bool → Option (List Bool)
unstuffed body = unstuff 5 body
