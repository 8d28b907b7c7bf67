-- What was sent is heard.
use Rattle.std.proofs.Common.{◌≡◌, ℕ, zero, suc, ◌+◌, ◌-◌, ◌*◌, ◌%◌, ◌<◌, ◌≤◌, Bool, true, false, cond, leb, List, [], ◌∷◌, ◌++◌, length, Ok, Err, Result, refl, ap, ◌∙◌, arith}
use Rattle.std.proofs.lemmas.List.{length-append}
use Rattle.std.proofs.ByRecursion.{All-append}
use Rattle.std.proofs.lemmas.Bool.{cond-true, le-leb, leb-true, and_from, or_left, eq-eqb}
use Rattle.line.specs.declared.heard.Hearing.TheVariants.{Frame}
use Rattle.line.specs.Bits.{bits_of, octets_in}
use Rattle.answers.specs.declared.refusal.Refusal.{Refusal}
use Rattle.answers.specs.declared.refusal.Refusal.TheVariants.{MessageTooLong, OutputTooShort}
use Rattle.line.specs.Burst.{body_of, frame, flagged, octet_count, writing}
use Rattle.line.specs.Fcs.{tail}
use Rattle.line.specs.Hearing.{hears, hears_line, refused_at, quiet_at, frame_at, closes_by, checked}
use Rattle.line.specs.Scanning.{Right}
use Rattle.line.specs.Stuffing.{stuff, stuffed, unstuffed}
use Rattle.line.proofs.Answering.{all_right}
use Rattle.line.proofs.Lengths.{length_bits_of}
use Rattle.line.proofs.Octets.{octets-back}
use Rattle.line.proofs.Whole.{length-flagged}
use Rattle.line_laws.specs.Passing.{Octets}
use Rattle.line_laws.specs.Returning.{heard_back, SentIsHeard}
use Rattle.line_laws.proofs.Framed.{starts_is, closes-is, body_is}
use Rattle.line_laws.proofs.Residues.{residue-left}
use Rattle.line_laws.proofs.Trip.{decodes}
use Rattle.line_laws.proofs.Unstuffed.{stuff-back}

-- stuffing adds a bit to five at most, and no fewer bits come out
stuff-most : (n : ℕ) (bits : List Bool) → n ≤ 4 → 5 * length (stuff n bits) ≤ 6 * length bits + (4 - n)
unfolding stuff
stuff-most zero [] h = omega arith
stuff-most (suc n) [] h = omega arith
stuff-most zero (false ∷ bits) h = let r = stuff-most 4 bits (omega arith) in omega arith
stuff-most (suc n) (false ∷ bits) h = let r = stuff-most 4 bits (omega arith) in omega arith
stuff-most zero (true ∷ bits) h = let r = stuff-most 4 bits (omega arith) in omega arith
stuff-most (suc n) (true ∷ bits) h = let r = stuff-most n bits (omega arith) in omega arith

stuff-least : (n : ℕ) (bits : List Bool) → length bits ≤ length (stuff n bits)
unfolding stuff
stuff-least zero [] = omega arith
stuff-least (suc n) [] = omega arith
stuff-least zero (false ∷ bits) = let r = stuff-least 4 bits in omega arith
stuff-least (suc n) (false ∷ bits) = let r = stuff-least 4 bits in omega arith
stuff-least zero (true ∷ bits) = let r = stuff-least 4 bits in omega arith
stuff-least (suc n) (true ∷ bits) = let r = stuff-least n bits in omega arith

length-tail : (m : List ℕ) → length (tail m) ≡ 2
unfolding tail
length-tail m = refl

tail-fits : (m : List ℕ) → Octets (tail m)
unfolding tail
tail-fits m = (omega arith, (omega arith, tt))

module _ (m : List ℕ) (fit : Octets m) (short : length m ≤ 12288) where
  long : length (m ++ tail m) ≡ length m + 2
  long = let a = length-append m (tail m) in let b = length-tail m in omega arith

  some : 0 < length (stuffed (bits_of (m ++ tail m)))
  some = let a = stuff-least 4 (bits_of (m ++ tail m)) in let b = length_bits_of (m ++ tail m) in let c = long in omega arith

  few : length (stuffed (bits_of (m ++ tail m))) ≤ 132000
  few = let a = stuff-most 4 (bits_of (m ++ tail m)) (omega arith) in let b = length_bits_of (m ++ tail m) in let c = long in omega arith

  right : Right (frame m) 264 (264 + length (stuffed (bits_of (m ++ tail m)))) (bits_of (m ++ tail m))
  unfolding body_of
  right =
      let l = length-flagged (stuffed (bits_of (m ++ tail m))) in
      let c = closes-is (bits_of (m ++ tail m)) some in
      let f = few in
      record {
        closed = record {
          some = omega arith;
          timely = or_left _ _ (ap (closes_by 264) c ∙ le-leb (264 + length (stuffed (bits_of (m ++ tail m)))) (264 + 132000) (omega arith));
          closes = c;
        };
        unstuffs = ap unstuffed (body_is (bits_of (m ++ tail m)) some) ∙ stuff-back 4 (bits_of (m ++ tail m));
      }

  octets_are : octets_in (bits_of (m ++ tail m)) ≡ m ++ tail m
  octets_are = octets-back (m ++ tail m) (All-append (λ o. o < 256) m (tail m) fit (tail-fits m))

  checks : checked (octets_in (bits_of (m ++ tail m))) ≡ true
  checks = ap checked octets_are ∙ and_from _ _ (le-leb 2 (length (m ++ tail m)) (let c = long in omega arith)) (eq-eqb _ _ (residue-left m fit))

  pub line-heard : hears_line (frame m) 0 ≡ heard_back m
  unfolding hears_line body_of
  line-heard =
      let l = length-flagged (stuffed (bits_of (m ++ tail m))) in
      let w : length (bits_of (m ++ tail m)) % 8 ≡ 0 = let b = length_bits_of (m ++ tail m) in omega arith in
      let n : 264 + length (stuffed (bits_of (m ++ tail m))) ≡ length (flagged (stuffed (bits_of (m ++ tail m)))) - 8 = omega arith in
      all_right refused_at quiet_at (frame m) 0 frame_at 264 (264 + length (stuffed (bits_of (m ++ tail m)))) (bits_of (m ++ tail m)) (starts_is (bits_of (m ++ tail m)) some) right w checks
      ∙ ap (λ x. record { answer = record { hearing = Frame (length x); next = 264 + length (stuffed (bits_of (m ++ tail m))) }; octets = x }) octets_are
      ∙ ap (λ x. record { answer = record { hearing = Frame x; next = 264 + length (stuffed (bits_of (m ++ tail m))) }; octets = m ++ tail m }) long
      ∙ ap (λ x. record { answer = record { hearing = Frame (length m + 2); next = x }; octets = m ++ tail m }) n

pub sent-is-heard : SentIsHeard
unfolding hears hears_line
sent-is-heard m old new work fit short room w enough =
    let d = decodes (frame m) old new room w in
    let i = le-leb 16500 work enough in
    let b = and_from _ _ (le-leb 0 (length (frame m)) (omega arith)) (le-leb (length (frame m)) (8 * length new) (omega arith)) in
    cond-true _ _ _ i ∙ cond-true _ _ _ b ∙ ap (λ bits. hears_line bits 0) d ∙ line-heard m fit short

err_ok : (x : Refusal) (y : ℕ) → Ok y ≡ Err x → ⊥
err_ok x y e = let z : ◌≡◌ {A = ℕ} 0 1 = cc in omega arith

-- what the writer's yes says
pub record Wrote (m : List ℕ) (room n : ℕ) : Type 0 where
  pub count : n ≡ length (frame m)
  pub short : length m ≤ 12288
  pub fits : octet_count (length (frame m)) ≤ room

abbrev writes : Bool → Bool → ℕ → Result ℕ Refusal
writes t u n = cond t (cond u (Ok n) (Err OutputTooShort)) (Err MessageTooLong)

wrote_by : (t u : Bool) (k n : ℕ) → Ok n ≡ writes t u k → (t ≡ true) × (u ≡ true) × (n ≡ k)
wrote_by true true k n e = (refl, refl, cc)
wrote_by true false k n e = absurd (err_ok OutputTooShort n e)
wrote_by false u k n e = absurd (err_ok MessageTooLong n e)

pub wrote : (m : List ℕ) (room n : ℕ) → Ok n ≡ writing m room → Wrote m room n
wrote m room n e =
    let p = wrote_by (leb (length m) 12288) (leb (octet_count (length (frame m))) room) (length (frame m)) n e in
    record { count = p.2; short = leb-true _ _ p.0; fits = leb-true _ _ p.1 }
