-- A burst's questions, by what the line heard.
use Rattle.std.proofs.Common.{◌≡◌, ℕ, ◌-◌, ◌≤◌, Bool, true, false, cond, leb, List, [], length, take, drop, replicate, Ok, Err, Option, Result, sym, refl, ap, ◌∙◌, subst, arith, length-append}
use lib.Seq.{take-append-le}
use Rattle.std.proofs.lemmas.List.{length-take-le}
use borrow.Rule.Slice.PartMut.{put_mid}
use Rattle.answers.specs.declared.refusal.Refusal.{Refusal}
use Rattle.answers.specs.declared.refusal.Refusal.TheVariants.{WorkTooShort, OutOfBounds}
use Rattle.answers.specs.Questions.{Questions, first}
use Rattle.line.specs.declared.heard.Heard.{Heard}
use Rattle.line.specs.declared.heard.Hearing.{Hearing}
use Rattle.line.specs.declared.heard.Hearing.TheVariants.{Quiet, Refused, Frame}
use Rattle.line.specs.Bits.{bits_in}
use Rattle.line.specs.Hearing.{Outcome, admission, in_bounds, work_octets, hears, hears_line, laid, line_questions}
use Rattle.line.proofs.Answering.{admitted, agrees, agrees_else, laid-front}
use Rattle.marks.specs.State.{State}
use Rattle.judging.specs.declared.answer.Answer.{Answer}
use Rattle.judging.specs.declared.answer.Release.{Release}
use Rattle.judging.specs.declared.answer.Verdict.{Verdict}
use Rattle.judging.specs.Inputs.{Inputs}
use Rattle.judging.specs.Frames.{message_in, message_heard}
use Rattle.judging.specs.Questions.{questions, refused, quiet}
use Rattle.judging.specs.Stages.{message_questions}
use Rattle.judging.specs.Effects.{offered, Leaves, StoreMoves, left_at}
use Rattle.judging.proofs.Line.{Says, line_says}
use Rattle.judging.proofs.Reading.{refused-leaves, refused_moves}

err_ok : {X : Type 0} (x : Refusal) → ◌≡◌ {A = Result (Unit {0}) Refusal} (Ok tt) (Err x) → X
err_ok x e = let z : ◌≡◌ {A = ℕ} 0 1 = cc in absurd (omega arith)

-- the first three questions hold
past : (t u w : Bool) (x a b d : Answer) → ◌≡◌ {A = Result (Unit {0}) Refusal} (Ok tt) (cond t (cond u (Ok tt) (Err OutOfBounds)) (Err WorkTooShort)) → w ≡ true → cond t (cond u (cond w x a) b) d ≡ x
past true true true x a b d e k = refl
past true true false x a b d e k = let z : ◌≡◌ {A = ℕ} 0 1 = cc in absurd (omega arith)
past true false w x a b d e k = err_ok OutOfBounds e
past false u w x a b d e k = err_ok WorkTooShort e

-- the answer where no frame is heard
abbrev pub unheard_as : Hearing → ℕ → Answer
unheard_as Quiet next = quiet next
unheard_as (Refused refusal) next = refused refusal next
unheard_as (Frame n) next = quiet next

pub refused-no_frame : (h : Hearing) (r : Refusal) → h ≡ Refused r → (n : ℕ) → h ≡ Frame n → ⊥
refused-no_frame h r e n k = let z : Refused r ≡ Frame n = sym e ∙ k in let u : ◌≡◌ {A = ℕ} 0 1 = cc in absurd (omega arith)

pub refused-unheard : (h : Hearing) (r : Refusal) (next : ℕ) → h ≡ Refused r → refused r next ≡ unheard_as h next
refused-unheard h r next e = ap (λ x. unheard_as x next) (sym e)

pub quiet-unheard : (h : Hearing) (next : ℕ) → ((r : Refusal) → h ≡ Refused r → ⊥) → ((n : ℕ) → h ≡ Frame n → ⊥) → quiet next ≡ unheard_as h next
quiet-unheard Quiet next f g = refl
quiet-unheard (Refused r) next f g = absurd (f r refl)
quiet-unheard (Frame n) next f g = refl

module _ (rest : ℕ → List ℕ → Questions Answer) (next : ℕ) (octets : List ℕ) (qs : Questions Answer) where
  unheard_first : (h : Hearing) → ((n : ℕ) → h ≡ Frame n → ⊥) → Says rest h next octets qs → unheard_as h next ≡ first qs
  unheard_first Quiet f x = sym x
  unheard_first (Refused r) f x = sym x.first
  unheard_first (Frame n) f x = absurd (f n refl)

  unheard_leaves : (h : Hearing) → ((n : ℕ) → h ≡ Frame n → ⊥) → Says rest h next octets qs → (offer : Option Release) (s : State) → Leaves offer s (unheard_as h next).verdict s
  unheard_leaves Quiet f x offer s = refl
  unheard_leaves (Refused r) f x offer s = refused-leaves offer s r x.uncut
  unheard_leaves (Frame n) f x offer s = absurd (f n refl)

  unheard_moves : (h : Hearing) → ((n : ℕ) → h ≡ Frame n → ⊥) → Says rest h next octets qs → {S : Type 0} (touches : S → S → Type 0) (s : S) → StoreMoves touches s (unheard_as h next).verdict s
  unheard_moves Quiet f x touches s = refl
  unheard_moves (Refused r) f x touches s = refused_moves touches s r x.uncut
  unheard_moves (Frame n) f x touches s = absurd (f n refl)

nothing_left : (h : Hearing) (next : ℕ) (message : List ℕ) → left_at (unheard_as h next).verdict message ≡ []
nothing_left Quiet next message = refl
nothing_left (Refused r) next message = refl
nothing_left (Frame n) next message = refl

module _ (i : Inputs) (s : State) (admits : Ok tt ≡ admission (length i.burst) i.count i.start i.work) (on : s.on ≡ true) where
  abbrev bits : List Bool
  bits = bits_in i.burst i.count

  abbrev follows : ℕ → List ℕ → Questions Answer
  follows next octets = message_questions i.conditions s next (message_in octets)

  abbrev rows : Questions Answer
  rows = line_questions refused quiet bits i.start follows

  through : first (questions i s) ≡ first rows
  through = past (leb work_octets i.work) (in_bounds (length i.burst) i.count i.start) s.on (first rows) _ _ _ admits on

  abbrev HeardBy : Outcome → Type 0
  HeardBy o = Says follows o.answer.hearing o.answer.next o.octets rows

  abbrev outcome : Outcome
  outcome = hears i.burst i.count i.start i.work

  is-line : outcome ≡ hears_line bits i.start
  is-line = (admitted i.burst i.count i.start i.work admits).line

  heard_says : (r : Heard) → r ≡ outcome.answer → Says follows r.hearing r.next (hears_line bits i.start).octets rows
  heard_says r e =
      let line : r ≡ (hears_line bits i.start).answer = e ∙ ap (λ (o : Outcome). o.answer) is-line in
      subst (λ (h : Heard). Says follows h.hearing h.next (hears_line bits i.start).octets rows) (sym line) (line_says follows bits i.start)

  -- a frame of n octets is heard, which closes at c
  pub record JudgedFrame (n c : ℕ) : Type 0 where
    pub first : first (questions i s) ≡ first (message_questions i.conditions s c (message_heard i))
    pub offered : offered (questions i s) ≡ offered (message_questions i.conditions s c (message_heard i))
    pub long : n ≡ length outcome.octets
    pub fcs : 2 ≤ n
    pub message : message_heard i ≡ message_in outcome.octets

  pub judged-frame : (r : Heard) (n : ℕ) → r ≡ outcome.answer → r.hearing ≡ Frame n → JudgedFrame n r.next
  judged-frame r n e k =
      let frame = subst (λ (h : Hearing). Says follows h r.next (hears_line bits i.start).octets rows) k (heard_says r e) in
      record {
        first = through ∙ frame.first;
        offered = frame.offered;
        long = frame.long ∙ ap (λ (o : Outcome). length o.octets) (sym is-line);
        fcs = frame.fcs;
        message = ap (λ (o : Outcome). message_in o.octets) (sym is-line);
      }

  -- no frame is heard: the answer, and that nothing moves or is left
  pub record JudgedNone (r : Heard) : Type 0 where
    pub first : unheard_as r.hearing r.next ≡ first (questions i s)
    pub leaves : Leaves (offered (questions i s)) s (unheard_as r.hearing r.next).verdict s
    pub octets : outcome.octets ≡ left_at (unheard_as r.hearing r.next).verdict (message_heard i)

  pub none_moves : (r : Heard) → r ≡ outcome.answer → ((n : ℕ) → r.hearing ≡ Frame n → ⊥) → {S : Type 0} (touches : S → S → Type 0) (t : S) → StoreMoves touches t (unheard_as r.hearing r.next).verdict t
  none_moves r e f touches t = unheard_moves follows r.next (hears_line bits i.start).octets rows r.hearing f (heard_says r e) touches t

  pub judged-none : (r : Heard) → r ≡ outcome.answer → ((n : ℕ) → r.hearing ≡ Frame n → ⊥) → JudgedNone r
  judged-none r e f =
      let line : r ≡ (hears_line bits i.start).answer = e ∙ ap (λ (o : Outcome). o.answer) is-line in
      let says = heard_says r e in
      let none = agrees_else (hears_line bits i.start).answer.hearing (hears_line bits i.start).octets (λ n k. f n (ap (λ (h : Heard). h.hearing) line ∙ k)) (agrees bits i.start) in
      record {
        first = unheard_first follows r.next (hears_line bits i.start).octets rows r.hearing f says ∙ sym through;
        leaves = unheard_leaves follows r.next (hears_line bits i.start).octets rows r.hearing f says (offered (questions i s)) s;
        octets = ap (λ (o : Outcome). o.octets) is-line ∙ none ∙ sym (nothing_left r.hearing r.next (message_heard i));
      }

-- the front of a work buffer
pub front-is : (octets work : List ℕ) (n m : ℕ) → work ≡ laid m octets → n ≡ length octets → 2 ≤ n → take (n - 2) work ≡ message_in octets
front-is octets work n m e l h =
    let short : length octets - 2 ≤ length octets = omega arith in
    ap (λ t. take (n - 2) t) e ∙ ap (λ k. take (k - 2) (laid m octets)) l ∙ take-append-le (length octets - 2) octets (replicate (m - length octets) 0) short

pub front_fits : (octets work : List ℕ) (n m : ℕ) → work ≡ laid m octets → n ≡ length octets → n - 2 ≤ length work
front_fits octets work n m e l = let k = simp length-append at (ap length e) in omega arith

-- a buffer cleared behind its first n octets
pub cleared_behind : (work zeros : List ℕ) (n : ℕ) → n ≤ length work → zeros ≡ replicate (length (drop n work)) 0 → put_mid n (length work - n) work zeros ≡ laid (length work) (take n work)
cleared_behind work zeros n h z =
    let l = length-take-le n work h in
    laid-front (take n work) work zeros n (record { fits = omega arith; same = ap (λ k. take k work) l }) (sym l) z

pub whole-front : (work : List ℕ) (n : ℕ) → take (n - 0) work ≡ take n work
whole-front work n = let z : n - 0 ≡ n = omega arith in ap (λ (k : ℕ). take k work) z

-- what is answered and left on octets is answered and left on the same octets by another name
module _ (asked : List ℕ → Questions Answer) (front message : List ℕ) (same : front ≡ message) where
  pub front-first : (r : Answer) → r ≡ first (asked front) → r ≡ first (asked message)
  front-first r e = subst (λ (m : List ℕ). r ≡ first (asked m)) same e

  pub front-leaves : (s t : State) (v : Verdict) → Leaves (offered (asked front)) s v t → Leaves (offered (asked message)) s v t
  front-leaves s t v l = subst (λ (m : List ℕ). Leaves (offered (asked m)) s v t) same l

pub front-left : (front message work : List ℕ) (n m : ℕ) (v : Verdict) → front ≡ message → n ≡ m → work ≡ laid n (left_at v front) → work ≡ laid m (left_at v message)
front-left front message work n m v same e h = h ∙ ap (λ (k : ℕ). laid k (left_at v front)) e ∙ ap (λ (x : List ℕ). laid m (left_at v x)) same
