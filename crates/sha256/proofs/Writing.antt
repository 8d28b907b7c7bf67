-- Words as octets.
use Rattle.std.proofs.Common.{◌≡◌, ℕ, ◌<◌, suc, List, [], ◌∷◌, ◌++◌, length, get_or, sym, refl, ap, ◌∙◌, arith}
use Rattle.std.specs.List.{flat_map}
use Rattle.std.proofs.lemmas.List.{append_assoc}
use Rattle.sha256.specs.Sha256.{octets_of32, octets_of_words}

words_push : (words : List ℕ) (word : ℕ) → octets_of_words (words ++ (word ∷ [])) ≡ octets_of_words words ++ octets_of32 word
unfolding octets_of_words octets_of32
words_push [] word = refl
words_push (w ∷ words) word = ap (λ x. octets_of32 w ++ x) (words_push words word) ∙ sym (append_assoc (octets_of32 w) (octets_of_words words) (octets_of32 word))

-- the octets of each word, one behind the other
pub words_octets : (words : List ℕ) (parts : List (List ℕ)) → length parts ≡ length words → ((i : ℕ) → i < length words → get_or parts i [] ≡ octets_of32 (get_or words i 0)) → flat_map (λ part. part) parts ≡ octets_of_words words
unfolding octets_of_words
words_octets [] [] long each = refl
words_octets [] (part ∷ parts) long each = absurd (omega (arith, long))
words_octets (word ∷ words) [] long each = absurd (omega (arith, long))
words_octets (word ∷ words) (part ∷ parts) long each =
    let rest = words_octets words parts (omega (arith, long)) (λ i l. each (suc i) (omega (arith, l))) in
    let here : part ≡ octets_of32 word = each 0 (omega arith) in
    (λ i. here i ++ rest i)
