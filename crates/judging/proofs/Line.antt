-- The questions of the line, by what was heard.
use Rattle.std.proofs.Common.{◌≡◌, ℕ, ◌+◌, ◌%◌, ◌≤◌, Bool, true, false, eqb, leb, List, length, Some, None, Option, refl}
use Rattle.std.proofs.lemmas.Bool.{and_parts, leb-true}
use Rattle.answers.specs.declared.refusal.Refusal.{Refusal}
use Rattle.answers.specs.declared.refusal.Refusal.TheVariants.{BurstTooLong, Framing, OctetAlign, FcsFail}
use Rattle.answers.specs.Questions.{Questions, ◌⨟◌, ask, found, first}
use Rattle.line.specs.declared.heard.Hearing.{Hearing}
use Rattle.line.specs.declared.heard.Hearing.TheVariants.{Quiet, Refused, Frame}
use Rattle.line.specs.Bits.{octets_in}
use Rattle.line.specs.Fcs.{register, residue}
use Rattle.line.specs.Flags.{body_start, closing, between}
use Rattle.line.specs.Hearing.{Outcome, hears_line, line_questions, in_time, checked, longest_body, refused_at, quiet_at, frame_at}
use Rattle.line.specs.Stuffing.{unstuffed}
use Rattle.judging.specs.declared.answer.Answer.{Answer}
use Rattle.judging.specs.Questions.{refused, quiet}
use Rattle.judging.specs.Effects.{offered, is_cut}

-- what the answer to questions is, where the line heard this
pub record Framed (n next : ℕ) (octets : List ℕ) (rest : ℕ → List ℕ → Questions Answer) (answer : Answer) (qs : Questions Answer) : Type 0 where
  pub first : answer ≡ first (rest next octets)
  pub offered : offered qs ≡ offered (rest next octets)
  pub long : n ≡ length octets
  pub fcs : 2 ≤ n

pub record Unheard (r : Refusal) (next : ℕ) (answer : Answer) : Type 0 where
  pub first : answer ≡ refused r next
  pub uncut : is_cut r ≡ false

abbrev pub Says : (ℕ → List ℕ → Questions Answer) → Hearing → ℕ → List ℕ → Questions Answer → Type 0
Says rest Quiet next octets qs = first qs ≡ quiet next
Says rest (Refused r) next octets qs = Unheard r next (first qs)
Says rest (Frame n) next octets qs = Framed n next octets rest (first qs) qs

module _ (rest : ℕ → List ℕ → Questions Answer) where
  abbrev SaysOf : Outcome → Questions Answer → Type 0
  SaysOf o qs = Says rest o.answer.hearing o.answer.next o.octets qs

  says_ask : (t : Bool) (r : Refusal) (next : ℕ) (os : Questions Outcome) (qs : Questions Answer) → is_cut r ≡ false → (t ≡ true → SaysOf (first os) qs)
      → SaysOf (first (ask t (refused_at r next) ⨟ os)) (ask t (refused r next) ⨟ qs)
  says_ask true r next os qs u h = passes (first os).answer.hearing (first os).answer.next (first os).octets (h refl)
    where
      passes : (g : Hearing) (n : ℕ) (octets : List ℕ) → Says rest g n octets qs → Says rest g n octets (ask true (refused r next) ⨟ qs)
      passes Quiet n octets x = x
      passes (Refused e) n octets x = x
      passes (Frame k) n octets x = record { first = x.first; offered = x.offered; long = x.long; fcs = x.fcs }
  says_ask false r next os qs u h = record { first = refl; uncut = u }

  says_found : {X : Type 0} (o : Option X) (r : Refusal) (next : ℕ) (os : X → Questions Outcome) (qs : X → Questions Answer) → is_cut r ≡ false → ((x : X) → SaysOf (first (os x)) (qs x))
      → SaysOf (first (found o (refused_at r next) os)) (found o (refused r next) qs)
  says_found None r next os qs u h = record { first = refl; uncut = u }
  says_found (Some x) r next os qs u h = says_ask true r next (os x) (qs x) u (λ e. h x)

  module _ (bits : List Bool) (start : ℕ) where
    long-enough : (octets : List ℕ) → checked octets ≡ true → 2 ≤ length octets
    long-enough octets h = leb-true 2 (length octets) (and_parts (leb 2 (length octets)) (eqb (register octets) residue) h).0

    abbrev heard_rows : ℕ → List Bool → Questions Outcome
    heard_rows c kept = ask (eqb (length kept % 8) 0) (refused_at OctetAlign c) ⨟ ask (checked (octets_in kept)) (refused_at FcsFail c) ⨟ frame_at c (octets_in kept)

    abbrev octet_rows : ℕ → List Bool → Questions Answer
    octet_rows c kept = ask (eqb (length kept % 8) 0) (refused OctetAlign c) ⨟ ask (checked (octets_in kept)) (refused FcsFail c) ⨟ rest c (octets_in kept)

    octets_say : (c : ℕ) (kept : List Bool) → SaysOf (first (heard_rows c kept)) (octet_rows c kept)
    octets_say c kept =
        says_ask (eqb (length kept % 8) 0) OctetAlign c (ask (checked (octets_in kept)) (refused_at FcsFail c) ⨟ frame_at c (octets_in kept)) (ask (checked (octets_in kept)) (refused FcsFail c) ⨟ rest c (octets_in kept)) refl
        (λ e. says_ask (checked (octets_in kept)) FcsFail c (frame_at c (octets_in kept)) (rest c (octets_in kept)) refl
        (λ k. record { first = refl; offered = refl; long = refl; fcs = long-enough (octets_in kept) k }))

    closed_says : (b c : ℕ) → SaysOf (first (found (unstuffed (between b c bits)) (refused_at Framing c) (heard_rows c))) (found (unstuffed (between b c bits)) (refused Framing c) (octet_rows c))
    closed_says b c = says_found (unstuffed (between b c bits)) Framing c (heard_rows c) (octet_rows c) refl (octets_say c)

    abbrev heard_body : ℕ → Questions Outcome
    heard_body b =
        ask (in_time bits b) (refused_at BurstTooLong (b + longest_body)) ⨟
        found (closing bits b) (refused_at Framing (length bits)) (λ c. found (unstuffed (between b c bits)) (refused_at Framing c) (heard_rows c))

    abbrev body_rows : ℕ → Questions Answer
    body_rows b =
        ask (in_time bits b) (refused BurstTooLong (b + longest_body)) ⨟
        found (closing bits b) (refused Framing (length bits)) (λ c. found (unstuffed (between b c bits)) (refused Framing c) (octet_rows c))

    body_says : (b : ℕ) → SaysOf (first (heard_body b)) (body_rows b)
    body_says b =
        says_ask (in_time bits b) BurstTooLong (b + longest_body) (found (closing bits b) (refused_at Framing (length bits)) (λ c. found (unstuffed (between b c bits)) (refused_at Framing c) (heard_rows c)))
        (found (closing bits b) (refused Framing (length bits)) (λ c. found (unstuffed (between b c bits)) (refused Framing c) (octet_rows c))) refl
        (λ e. says_found (closing bits b) Framing (length bits) (λ c. found (unstuffed (between b c bits)) (refused_at Framing c) (heard_rows c)) (λ c. found (unstuffed (between b c bits)) (refused Framing c) (octet_rows c)) refl (closed_says b))

    opened_says : (o : Option ℕ) → SaysOf (first (found o (quiet_at (length bits)) heard_body)) (found o (quiet (length bits)) body_rows)
    opened_says None = refl
    opened_says (Some b) = passes (first (heard_body b)).answer.hearing (first (heard_body b)).answer.next (first (heard_body b)).octets (body_says b)
      where
        passes : (g : Hearing) (n : ℕ) (octets : List ℕ) → Says rest g n octets (body_rows b) → Says rest g n octets (ask true (quiet (length bits)) ⨟ body_rows b)
        passes Quiet n octets x = x
        passes (Refused e) n octets x = x
        passes (Frame k) n octets x = record { first = x.first; offered = x.offered; long = x.long; fcs = x.fcs }

    pub line_says : SaysOf (hears_line bits start) (line_questions refused quiet bits start rest)
    unfolding hears_line
    line_says = opened_says (body_start bits start)
