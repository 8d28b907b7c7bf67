-- What `parse` reads of a word with no sign.
use Rattle.std.proofs.Common.{◌≡◌, ℕ, List, get_or, None, Result, sym, ap, subst, arith}
use Rattle.std.specs.Result.{result_ok}
use Rattle.std.specs.Str.Parse.{IsNumeral, ParsesUnsigned}
use Rattle.std.specs.Int.{IsInRange}
use Rattle.std.proofs.lemmas.Str.Parse.{digit_at}
use Rattle.std.proofs.lemmas.Fmt.{decimal_is_IsNumeral, parse-decimal}
use Rattle.words.specs.Numbers.{ReadsBack}

-- digits do not begin with a plus
no_plus : (w : List ℕ) → get_or w 0 0 ≡ 43 → IsNumeral 10 w → ⊥
no_plus w e n = let d : IsInRange 48 57 (get_or w 0 0) = digit_at w 0 n.1 n.0 in omega (arith, d.0, d.1, e)

pub signed_back : (w : List ℕ) → get_or w 0 0 ≡ 43 → ReadsBack w None
signed_back w e n l same =
    let m : IsNumeral 10 w = subst (λ v. IsNumeral 10 v) (sym same) (decimal_is_IsNumeral n l).0 in
    absurd (no_plus w e m)

pub plain_back : {E : Type 0} (w : List ℕ) (r : Result ℕ E) → ParsesUnsigned 64 10 w r → ReadsBack w (result_ok r)
plain_back w r h n l same = ap result_ok (parse-decimal 64 n w r l l same h)
