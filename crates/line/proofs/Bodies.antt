-- The way through a body.
use Rattle.std.proofs.Common.{◌≡◌, ℕ, zero, suc, ◌+◌, ◌-◌, ◌*◌, ◌%◌, ◌<◌, ◌≤◌, Bool, true, false, eqb, List, [], ◌∷◌, ◌++◌, length, take, drop, Some, None, Option, sym, refl, ap, ◌∙◌, subst, inl, inr, append-nil, Ok, Err, Result, arith}
use Rattle.std.specs.List.{AllByRecursion as All}
use Rattle.std.proofs.lemmas.List.{length-append, length-take-le, take_at}
use Rattle.std.proofs.ByRecursion.{All-take}
use Rattle.std.proofs.lemmas.Bool.{cond-true, cond-false, cases_Bool, eqb-true, eqb-false, le-leb, lt-leb, or_left, or_right, or_from}
use Rattle.line.specs.declared.listener.Phase.TheVariants.{Inside}
use Rattle.line.specs.declared.listener.Sign.TheVariants.{Flag}
use Rattle.line.specs.declared.packer.Packer.{Packer}
use Rattle.answers.specs.declared.refusal.Refusal.TheVariants.{BurstTooLong, Framing}
use Rattle.line.specs.declared.scan.Body.{Body}
use Rattle.line.specs.declared.scan.Flaw.{Flaw}
use Rattle.line.specs.Bits.{low, bits_of, octets_in, decoded, heard, bits_in}
use Rattle.line.specs.Flags.{flag, starts, first_flag, past_flags, closing, between}
use Rattle.line.specs.Hearing.{closes_by}
use Rattle.line.proofs.Views.{Missing, View, next, sign}
use Rattle.line.specs.Packing.{held}
use Rattle.line.specs.Scanning.{Closed, Right, Packed, flaw, TooLong, Unclosed, Broken, Misaligned, Found, closed_as}
use Rattle.line.specs.Stuffing.{unstuff, unstuffed}
use Rattle.line.proofs.Lengths.{length_bits_of, length-held}
use Rattle.line.proofs.Listens.{behind, Sound, sound-next, goes_on, grows, short, Tells, packs, tells-on, tells_first, Closing, closes_at, flag-place, seven_seen, unstuffs}
use Rattle.line.proofs.Octets.{octets-back}
use Rattle.line.proofs.Places.{heard-more, heard-none, heard-from, length-heard, no_room, not_before, none_here, later-here, first-here, front-is, no_more-flags, one-more-flag, drop-heard}
use Rattle.line.proofs.Runs.{ones, then, same_place}

-- the bits that a packer holds
abbrev pub bits_held : Packer → List ℕ → List Bool
bits_held p work = held p.octets p.fill p.part work

-- the decoded bits from a place on
abbrev pub on_from : List ℕ → ℕ → ℕ → List Bool
on_from os count k = heard os k (count - k)

-- where the way through a body stands at bit k: it began at `first`, and the body starts at `from`
pub record Scans (os : List ℕ) (count first from k : ℕ) (l : View) (p : Packer) (work : List ℕ) : Type 0 where
  pub least : first ≤ from
  pub order : from + length (behind l) ≤ k
  pub recent : k ≤ from + 132007
  pub sound : Sound l
  pub past : (m : ℕ) → count ≤ first + 8 * m → (n : ℕ) × (count ≤ from + 8 * n) × (past_flags m first (on_from os count first) ≡ past_flags n from (on_from os count from))
  pub flags : first_flag from (on_from os count from) ≡ first_flag (k - length (behind l)) (behind l ++ on_from os count k)
  pub tells : Tells l (bits_held p work) (on_from os count from) (on_from os count k)
  pub few : 8 * p.octets + p.fill + from ≤ k

abbrev inside : View
inside = record { phase = Inside; ones = 0; zero = Missing; broken = false }

held-nothing : (p : Packer) (work : List ℕ) → p.octets ≡ 0 → p.fill ≡ 0 → bits_held p work ≡ []
unfolding held bits_of low
held-nothing p work a b = rw (a, b)

-- a body begins at `from`
module _ (os : List ℕ) (count first from : ℕ) (p : Packer) (work : List ℕ) where
  pub opens : first ≤ from
      → ((m : ℕ) → count ≤ first + 8 * m → (n : ℕ) × (count ≤ from + 8 * n) × (past_flags m first (on_from os count first) ≡ past_flags n from (on_from os count from)))
      → p.octets ≡ 0 → p.fill ≡ 0 → Scans os count first from from inside p work
  opens h past a b =
      record {
        least = h;
        order = omega arith;
        recent = omega arith;
        sound = omega arith;
        past = past;
        flags = same_place _ _ _ (omega arith);
        tells = subst (λ t. Tells inside t (on_from os count from) (on_from os count from)) (sym (held-nothing p work a b)) (tells_first (on_from os count from));
        few = omega arith;
      }

module _ (os : List ℕ) (count first from k : ℕ) (l : View) (p : Packer) (work : List ℕ) (b : Bool) (less : k < count) (is : b ≡ decoded os k) (s : Scans os count first from k l p work) where
  body : List Bool
  body = on_from os count from

  more : on_from os count k ≡ b ∷ on_from os count (k + 1)
  more = heard-more os k count less ∙ ap (λ t. t ∷ on_from os count (k + 1)) (sym is)

  here : first_flag from (on_from os count from) ≡ first_flag (k - length (behind l)) (behind l ++ (b ∷ on_from os count (k + 1)))
  here = s.flags ∙ ap (λ t. first_flag (k - length (behind l)) (behind l ++ t)) more

  tells-here : Tells l (bits_held p work) (on_from os count from) (b ∷ on_from os count (k + 1))
  tells-here = subst (λ t. Tells l (bits_held p work) (on_from os count from) t) more s.tells

  later : (sign l b ≡ Flag → ⊥) → first_flag from (on_from os count from) ≡ first_flag (k + 1 - length (behind (next l b))) (behind (next l b) ++ on_from os count (k + 1))
  later f = let o = s.order in here ∙ goes_on l b k (on_from os count (k + 1)) s.sound (omega arith) f

  -- one bit further
  pub further : (l' : View) (p' : Packer) (work' : List ℕ) → (sign l b ≡ Flag → ⊥) → k - from < 132007 → l' ≡ next l b
      → bits_held p' work' ≡ packs (sign l b) (bits_held p work) b → 8 * p'.octets + p'.fill ≤ 8 * p.octets + p.fill + 1
      → Scans os count first from (k + 1) l' p' work'
  further l' p' work' f early e packed few =
      let o = s.order in
      let g = grows l b s.sound in
      let w = s.few in
      let at : Scans os count first from (k + 1) (next l b) p' work' =
      record {
        least = s.least;
        order = omega arith;
        recent = omega arith;
        sound = sound-next l.phase b l.ones l.zero l.broken s.sound;
        past = s.past;
        flags = later f;
        tells = subst (λ t. Tells (next l b) t (on_from os count from) (on_from os count (k + 1))) (sym packed) (tells-on l b (bits_held p work) (on_from os count from) (on_from os count (k + 1)) s.sound f tells-here);
        few = omega arith;
      } in
      subst (λ t. Scans os count first from (k + 1) t p' work') (sym e) at

  -- a flag here stands seven bits back
  flag_at : sign l b ≡ Flag → first_flag from (on_from os count from) ≡ Some (k - 7)
  flag_at f = here ∙ flag-place l b k (on_from os count (k + 1)) f

  from_seven : sign l b ≡ Flag → from + 7 ≤ k
  from_seven f = let o = s.order in let n = seven_seen l b f in omega arith

  one_less : (m : ℕ) → count ≤ first + 8 * m → (n : ℕ) × (count ≤ from + 8 * n) × (past_flags m first (on_from os count first) ≡ past_flags n from (on_from os count from))
      → starts flag (on_from os count from) ≡ true → drop 8 (on_from os count from) ≡ on_from os count (k + 1) → from + 8 ≡ k + 1 → from + 7 ≤ k
      → (n : ℕ) × (count ≤ k + 1 + 8 * n) × (past_flags m first (on_from os count first) ≡ past_flags n (k + 1) (on_from os count (k + 1)))
  one_less m h (zero, c, e) st dr nx d = absurd (omega arith)
  one_less m h (suc n, c, e) st dr nx d =
      (n, omega arith, e ∙ one-more-flag n from (on_from os count from) st ∙ ap (λ j. past_flags n j (drop 8 (on_from os count from))) nx ∙ ap (past_flags n (k + 1)) dr)

  -- a flag at the body's start opens it anew
  pub reopens : (l' : View) (p' : Packer) (work' : List ℕ) → sign l b ≡ Flag → k ≤ from + 7 → l' ≡ inside → p'.octets ≡ 0 → p'.fill ≡ 0 → Scans os count first (k + 1) (k + 1) l' p' work'
  reopens l' p' work' f close e a z =
      let d = from_seven f in
      let k-is : k - 7 ≡ from = omega arith in
      let next-is : from + 8 ≡ k + 1 = omega arith in
      let st = first-here from (on_from os count from) (flag_at f ∙ ap (λ j. Some j) k-is) in
      let dr : drop 8 (on_from os count from) ≡ on_from os count (k + 1) = drop-heard 8 os from (count - from) ∙ ap (λ j. heard os j (count - from - 8)) next-is ∙ ap (heard os (k + 1)) (let u : count - from - 8 ≡ count - (k + 1) = omega arith in u) in
      let past : (m : ℕ) → count ≤ first + 8 * m → (n : ℕ) × (count ≤ k + 1 + 8 * n) × (past_flags m first (on_from os count first) ≡ past_flags n (k + 1) (on_from os count (k + 1))) =
      λ m h. one_less m h (s.past m h) st dr next-is d in
      let o = opens os count first (k + 1) p' work' (let q = s.least in omega arith) past a z in
      subst (λ t. Scans os count first (k + 1) (k + 1) t p' work') (sym e) o

-- the body's start, where no flag stands at `from`
module _ (os : List ℕ) (count first from : ℕ)
    (past : (m : ℕ) → count ≤ first + 8 * m → (n : ℕ) × (count ≤ from + 8 * n) × (past_flags m first (on_from os count first) ≡ past_flags n from (on_from os count from))) where
  start_is : starts flag (on_from os count from) ≡ false → (m : ℕ) → count ≤ first + 8 * m → past_flags m first (drop first (bits_in os count)) ≡ from
  start_is f m h = ap (past_flags m first) (heard-from os first count) ∙ (past m h).2 ∙ no_more-flags (past m h).0 from (on_from os count from) f

  pub found_at : (work : List ℕ) (r : Result (Option Body) Flaw) → starts flag (on_from os count from) ≡ false → Found (bits_in os count) from work r
      → (m : ℕ) → count ≤ first + 8 * m → Found (bits_in os count) (past_flags m first (drop first (bits_in os count))) work r
  found_at work r f g m h = subst (λ b. Found (bits_in os count) b work r) (sym (start_is f m h)) g

closing-is : (os : List ℕ) (count from : ℕ) → closing (bits_in os count) from ≡ first_flag from (on_from os count from)
unfolding closing
closing-is os count from = ap (first_flag from) (heard-from os from count)

between_is : (os : List ℕ) (count from c : ℕ) → between from c (bits_in os count) ≡ take (c - from) (on_from os count from)
unfolding between
between_is os count from c = ap (take (c - from)) (heard-from os from count)

unstuffed-is : (os : List ℕ) (count from c : ℕ) → first_flag from (on_from os count from) ≡ Some c → unstuffed (between from c (bits_in os count)) ≡ unstuffs (on_from os count from)
unstuffed-is os count from c e =
    ap unstuffed (between_is os count from c) ∙ ap (λ x. then x (unstuff 5)) (sym (front-is from c (on_from os count from) e))

-- no closing flag
unclosed : (os : List ℕ) (count first from k : ℕ)
    → ((m : ℕ) → count ≤ first + 8 * m → (n : ℕ) × (count ≤ from + 8 * n) × (past_flags m first (on_from os count first) ≡ past_flags n from (on_from os count from)))
    → (work : List ℕ) (r : Result (Option Body) Flaw) → from < count → count ≤ from + 132008 → first_flag from (on_from os count from) ≡ None → r ≡ Err (flaw Framing count)
    → (m : ℕ) → count ≤ first + 8 * m → Found (bits_in os count) (past_flags m first (drop first (bits_in os count))) work r
unclosed os count first from k past work r some few none e =
    let len = length-heard os 0 count in
    found_at os count first from past work r (none_here from (on_from os count from) none)
    (subst (λ x. Found (bits_in os count) from work x) (sym e)
    (Unclosed (ap (flaw Framing) (sym len)) (record { some = omega arith; timely = or_right _ _ (le-leb (length (bits_in os count)) (from + 132008) (omega arith)) })
    (closing-is os count from ∙ none)))

pub nothing_left : (os : List ℕ) (count k : ℕ) (l : View) → count ≤ k → length (behind l) ≤ 7 → first_flag (k - length (behind l)) (behind l ++ on_from os count k) ≡ None
nothing_left os count k l h sh =
    ap (λ t. first_flag (k - length (behind l)) (behind l ++ t)) (heard-none os k count h) ∙ ap (first_flag (k - length (behind l))) (append-nil (behind l)) ∙ no_room (k - length (behind l)) (behind l) sh

-- no flag at the front, where the first is further on, if there is one
not_here-by : (k : ℕ) (xs : List Bool) (o : Option ℕ) → first_flag k xs ≡ o → ((c : ℕ) → first_flag k xs ≡ Some c → k < c) → starts flag xs ≡ false
not_here-by k xs None e h = none_here k xs e
not_here-by k xs (Some c) e h = later-here k c xs e (h c e)

not_here : (k : ℕ) (xs : List Bool) → ((c : ℕ) → first_flag k xs ≡ Some c → k < c) → starts flag xs ≡ false
not_here k xs h = not_here-by k xs (first_flag k xs) refl h

-- the octets that a packer holds, where six bits of a flag stand behind them
module _ (p : Packer) (work : List ℕ) (kept : List Bool) (holds : bits_held p work ≡ kept ++ (false ∷ ones 5)) (fits : p.octets ≤ length work) where
  long : 8 * p.octets + p.fill ≡ length kept + 6
  long = let a = length-held p.octets p.fill p.part work fits in let b = length-append kept (false ∷ ones 5) in let c = ap length holds in omega arith

  kept-is : p.fill ≡ 6 → bits_of (take p.octets work) ≡ kept
  unfolding held
  kept-is e =
      let n : length (bits_of (take p.octets work)) ≡ length kept = let a = length_bits_of (take p.octets work) in let b = length-take-le p.octets work fits in let c = long in omega arith in
      sym (take_at (bits_of (take p.octets work)) (low p.fill p.part) (length kept) n) ∙ ap (take (length kept)) holds ∙ take_at kept (false ∷ ones 5) (length kept) refl

  packed : p.fill ≡ 6 → All (λ o. o < 256) work → Packed kept p.octets work
  packed e a =
      let c = long in
      record {
        whole = omega arith;
        fits = fits;
        octets = ap octets_in (sym (kept-is e)) ∙ octets-back (take p.octets work) (All-take (λ o. o < 256) p.octets work a);
      }

  not_packed : (p.fill ≡ 6 → ⊥) → length kept % 8 ≡ 0 → ⊥
  not_packed n z = let c = long in let f = p.ok.0 in n (omega arith)

-- a body that is found, as an answer that may have none
abbrev pub found : Result Body Flaw → Result (Option Body) Flaw
found (Ok body) = Ok (Some body)
found (Err f) = Err f

-- the body is closed
closed-by : (os : List ℕ) (count from c : ℕ) (br : Bool) (p : Packer) (work : List ℕ) → Closed (bits_in os count) from c → first_flag from (on_from os count from) ≡ Some c
    → Closing br (bits_held p work) (on_from os count from) → p.octets ≤ length work → All (λ o. o < 256) work → Found (bits_in os count) from work (found (closed_as br p.fill p.octets c))
closed-by os count from c true p work cl e t fits a = Broken c refl cl (unstuffed-is os count from c e ∙ t)
closed-by os count from c false p work cl e (kept, u, holds) fits a =
    let right : Right (bits_in os count) from c kept = record { closed = cl; unstuffs = unstuffed-is os count from c e ∙ u } in
    elim (cases_Bool (eqb p.fill 6)) [
      | inl t ↦ subst (λ r. Found (bits_in os count) from work (found r)) (sym (cond-true (eqb p.fill 6) _ _ t)) (kept, right, packed p work kept holds fits (eqb-true p.fill 6 t) a)
      | inr f ↦ subst (λ r. Found (bits_in os count) from work (found r)) (sym (cond-false (eqb p.fill 6) _ _ f)) (Misaligned c kept refl right (not_packed p work kept holds fits (eqb-false p.fill 6 f)))
    ]

module _ (os : List ℕ) (count first from k : ℕ) (l : View) (p : Packer) (work : List ℕ) (b : Bool) (less : k < count) (is : b ≡ decoded os k) (s : Scans os count first from k l p work) where
  -- a flag behind the body closes it
  pub closes : (r : Result (Option Body) Flaw) → sign l b ≡ Flag → from + 7 < k → 16500 ≤ length work → All (λ o. o < 256) work → r ≡ found (closed_as l.broken p.fill p.octets (k - 7))
      → (m : ℕ) → count ≤ first + 8 * m → Found (bits_in os count) (past_flags m first (drop first (bits_in os count))) work r
  closes r f far room a e =
      let here = flag_at os count first from k l p work b less is s f in
      let len = length-heard os 0 count in
      let w = s.few in
      let t = s.recent in
      let cl : Closed (bits_in os count) from (k - 7) =
      record {
        some = omega arith;
        timely = or_left _ _ (ap (closes_by from) (closing-is os count from ∙ here) ∙ le-leb (k - 7) (from + 132000) (omega arith));
        closes = closing-is os count from ∙ here;
      } in
      let c = closes_at l b (bits_held p work) (on_from os count from) (on_from os count (k + 1)) f (tells-here os count first from k l p work b less is s) in
      let g = closed-by os count from (k - 7) l.broken p work cl here c (omega arith) a in
      found_at os count first from s.past work r (later-here from (k - 7) (on_from os count from) here (omega arith)) (subst (λ x. Found (bits_in os count) from work x) (sym e) g)

  not_in_time : (o : Option ℕ) → ((c : ℕ) → o ≡ Some c → from + 132000 < c) → closes_by from o ≡ false
  not_in_time None h = refl
  not_in_time (Some c) h = lt-leb c (from + 132000) (h c refl)

  -- no flag, and no more may come in time
  pub too_long : (work' : List ℕ) (r : Result (Option Body) Flaw) → (sign l b ≡ Flag → ⊥) → 132007 ≤ k - from → k + 1 < count → r ≡ Err (flaw BurstTooLong (from + 132000))
      → (m : ℕ) → count ≤ first + 8 * m → Found (bits_in os count) (past_flags m first (drop first (bits_in os count))) work' r
  too_long work' r f late rest e =
      let len = length-heard os 0 count in
      let sh = short (next l b) (sound-next l.phase b l.ones l.zero l.broken s.sound) in
      let there = later os count first from k l p work b less is s f in
      let far : (c : ℕ) → first_flag from (on_from os count from) ≡ Some c → from + 132000 < c =
      λ c g. let n = not_before _ c _ (sym there ∙ g) in let t = s.recent in omega arith in
      let st : starts flag (on_from os count from) ≡ false = not_here from (on_from os count from) (λ c g. let q = far c g in omega arith) in
      found_at os count first from s.past work' r st
      (subst (λ x. Found (bits_in os count) from work' x) (sym e)
      (TooLong refl (omega arith)
      (or_from _ _ (not_in_time (closing (bits_in os count) from) (λ c g. far c (sym (closing-is os count from) ∙ g))) (lt-leb (length (bits_in os count)) (from + 132008) (omega arith)))))

  -- no flag at the last bit
  pub ends-unclosed : (work' : List ℕ) (r : Result (Option Body) Flaw) → (sign l b ≡ Flag → ⊥) → count ≤ k + 1 → r ≡ Err (flaw Framing count)
      → (m : ℕ) → count ≤ first + 8 * m → Found (bits_in os count) (past_flags m first (drop first (bits_in os count))) work' r
  ends-unclosed work' r f end e =
      let sh = short (next l b) (sound-next l.phase b l.ones l.zero l.broken s.sound) in
      let there = later os count first from k l p work b less is s f in
      let none = there ∙ nothing_left os count (k + 1) (next l b) end sh in
      unclosed os count first from k s.past work' r (let o = s.order in omega arith) (let t = s.recent in omega arith) none e

-- the bits are at an end
module _ (os : List ℕ) (count first from k : ℕ) (l : View) (p : Packer) (work : List ℕ) (end : count ≤ k) (s : Scans os count first from k l p work) where
  pub ends : (r : Result (Option Body) Flaw) → from < count → r ≡ Err (flaw Framing count) → (m : ℕ) → count ≤ first + 8 * m → Found (bits_in os count) (past_flags m first (drop first (bits_in os count))) work r
  ends r some e =
      let none = s.flags ∙ nothing_left os count k l end (short l s.sound) in
      unclosed os count first from k s.past work r some (let t = s.recent in omega arith) none e

  pub ends-empty : (r : Result (Option Body) Flaw) → count ≤ from → r ≡ Ok None → (m : ℕ) → count ≤ first + 8 * m → Found (bits_in os count) (past_flags m first (drop first (bits_in os count))) work r
  unfolding starts
  ends-empty r none e =
      let len = length-heard os 0 count in
      let st : starts flag (on_from os count from) ≡ false = ap (starts flag) (heard-none os from count none) in
      found_at os count first from s.past work r st (subst (λ x. Found (bits_in os count) from work x) (sym e) (omega arith))
