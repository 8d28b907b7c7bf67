-- Released exactly when due.
use Rattle.std.proofs.Common.{◌≡◌, ℕ, ◌<◌, Bool, true, false, cond, not, ◌&&◌, ◌||◌, ltb, Some, None, Option, sym, refl, ap, ◌∙◌, arith}
use Rattle.std.proofs.lemmas.Bool.{and_parts, ltb-true, lt-ltb}
use Rattle.std.proofs.lemmas.Bool.Decides.{nat_tests}
use Rattle.answers.specs.Questions.{Questions, otherwise, ◌⨟◌, ask, found, first}
use Rattle.marks.specs.declared.mark.Pair.{Pair}
use Rattle.marks.specs.declared.mark.Mark.{Mark}
use Rattle.marks.specs.Positions.{above}
use Rattle.marks.specs.State.{State}
use Rattle.judging.specs.declared.answer.Release.{Release}
use Rattle.judging.specs.declared.answer.Answer.{Answer}
use Rattle.judging.specs.Frames.{repeats}
use Rattle.judging.specs.Inputs.{Inputs}
use Rattle.judging.specs.Questions.{released, questions}
use Rattle.judging.specs.Effects.{released_by, offered}
use Rattle.receiver.specs.Others.{asks_mark_room_charge, every_other}

-- no question's refusal is a release
abbrev NoRelease : Questions Answer → Type 0
NoRelease (otherwise a) = Unit {0}
NoRelease (q ⨟ qs) = (released_by q.refusal.verdict ≡ None) × NoRelease qs

-- every question that asks for mark, room or charge holds
abbrev of_store : Questions Answer → Bool
of_store (otherwise a) = true
of_store (q ⨟ qs) = (not (asks_mark_room_charge q.refusal.verdict) || q.holds) && of_store qs

-- one more question
released-one : (asks holds others store : Bool) (refusal : Answer) (qs : Questions Answer) → released_by refusal.verdict ≡ None →
    released_by (first qs).verdict ≡ cond (others && store) (offered qs) None →
    released_by (cond holds (first qs) refusal).verdict ≡ cond (((asks || holds) && others) && ((not asks || holds) && store)) (offered qs) None
released-one true true others store refusal qs n h = h
released-one false true others store refusal qs n h = h
released-one true false true store refusal qs n h = n
released-one true false false store refusal qs n h = n
released-one false false others store refusal qs n h = n

-- what is released is what is offered, where every question holds
released-all : (qs : Questions Answer) → NoRelease qs → released_by (first qs).verdict ≡ cond (every_other qs && of_store qs) (offered qs) None
released-all (otherwise a) n = refl
released-all (q ⨟ qs) n = released-one (asks_mark_room_charge q.refusal.verdict) q.holds (every_other qs) (of_store qs) q.refusal qs n.0 (released-all qs n.1)

-- no refusal releases, and what is offered goes with the store's part in the way P
record Shape (P : Release → Bool → Type 0) (qs : Questions Answer) : Type 0 where
  clean : NoRelease qs
  store : (d : Release) → offered qs ≡ Some d → P d (of_store qs)

-- none is not some
never : {X : Type 0} (d : Release) → None ≡ Some d → X
never d k = let z : ◌≡◌ {A = ℕ} 0 1 = cc in absurd (omega arith)

module _ {P : Release → Bool → Type 0} where
  -- a question of another kind
  shape-other : {holds : Bool} {refusal : Answer} {qs : Questions Answer} → released_by refusal.verdict ≡ None → asks_mark_room_charge refusal.verdict ≡ false → Shape P qs → Shape P (ask holds refusal ⨟ qs)
  shape-other {holds} {refusal} {qs} n e x = record { clean = (n, x.clean); store = λ d k. rw e (x.store d k) }

  -- a question of the store
  shape-store : {Q : Release → Bool → Type 0} {holds : Bool} {refusal : Answer} {qs : Questions Answer} → released_by refusal.verdict ≡ None → asks_mark_room_charge refusal.verdict ≡ true →
      ((d : Release) (b : Bool) → P d b → Q d (holds && b)) → Shape P qs → Shape Q (ask holds refusal ⨟ qs)
  shape-store {Q} {holds} {refusal} {qs} n e f x = record { clean = (n, x.clean); store = λ d k. rw e (f d (of_store qs) (x.store d k)) }

  -- a question that finds something; where it finds nothing, nothing is offered
  shape-found : {X : Type 0} (o : Option X) (refusal : Answer) (rest : X → Questions Answer) → released_by refusal.verdict ≡ None → asks_mark_room_charge refusal.verdict ≡ false → ((x : X) → Shape P (rest x)) →
      Shape P (found o refusal rest)
  shape-found None refusal rest n e f = record { clean = (n, tt); store = λ d k. never d (sym n ∙ k) }
  shape-found (Some x) refusal rest n e f = shape-other n e (f x)

-- what the questions of the store want for d
abbrev store_takes : State → Release → Bool
store_takes s d = not (repeats (s.mark d.pair) d.mark) && (above (s.mark d.pair) d.mark.position && (s.room d.pair && (ltb 0 s.charge && true)))

abbrev Asked : State → Release → Bool → Type 0
Asked s d b = b ≡ store_takes s d

-- d is of this pair and mark, and this is asked of the store
record OfPair (p : Pair) (m : Mark) (asked : Bool) (d : Release) (b : Bool) : Type 0 where
  pair : d.pair ≡ p
  mark : d.mark ≡ m
  same : b ≡ asked

-- one more is asked of the store
of_pair : (p : Pair) (m : Mark) (asked holds : Bool) (d : Release) (b : Bool) → OfPair p m asked d b → OfPair p m (holds && asked) d (holds && b)
of_pair p m asked holds d b x = record { pair = x.pair; mark = x.mark; same = ap (λ y. holds && y) x.same }

-- the first that is asked of the store, and with it all
of_store_lem : (s : State) (p : Pair) (m : Mark) (d : Release) (b : Bool) → OfPair p m (above (s.mark p) m.position && (s.room p && (ltb 0 s.charge && true))) d b →
    Asked s d (not (repeats (s.mark p) m) && b)
of_store_lem s p m d b x = rw (x.pair, x.mark, x.same)

-- the end of the questions
ended : (d : Release) (next : ℕ) → Shape (OfPair d.pair d.mark true) (otherwise (released d next))
ended d next = record { clean = tt; store = λ e k. let h : e ≡ d = cc in record { pair = ap (λ x. x.pair) h; mark = ap (λ x. x.mark) h; same = refl } }

-- one line for each question, in their order
shape : (i : Inputs) (s : State) → Shape (Asked s) (questions i s)
shape i s =
    shape-other refl refl (
    shape-other refl refl (
    shape-other refl refl (
    shape-found _ _ _ refl refl (λ b.
    shape-other refl refl (
    shape-found _ _ _ refl refl (λ c.
    shape-found _ _ _ refl refl (λ kept.
    shape-other refl refl (
    shape-other refl refl (
    shape-other refl refl (
    shape-other refl refl (
    shape-other refl refl (
    shape-found _ _ _ refl refl (λ v.
    shape-other refl refl (
    shape-other refl refl (
    shape-other refl refl (
    shape-other refl refl (
    shape-other refl refl (
    shape-other refl refl (
    shape-store refl refl (of_store_lem s _ _) (
    shape-store refl refl (of_pair _ _ _ _) (
    shape-other refl refl (
    shape-other refl refl (
    shape-other refl refl (
    shape-found _ _ _ refl refl (λ request.
    shape-found _ _ _ refl refl (λ command.
    shape-other refl refl (
    shape-store refl refl (of_pair _ _ _ _) (
    shape-store refl refl (of_pair _ _ _ _) (
    ended _ _)))))))))))))))))))))))))))))

-- d is due, by the store's own marks
pub record DueOf (i : Inputs) (s : State) (d : Release) : Type 0 where
  pub frame : offered (questions i s) ≡ Some d
  pub others : every_other (questions i s) ≡ true
  pub higher : above (s.mark d.pair) d.mark.position ≡ true
  pub roomy : s.room d.pair ≡ true
  pub charged : 0 < s.charge

-- what a release tells
passed : (others store : Bool) (o : Option Release) (d : Release) → cond (others && store) o None ≡ Some d → (others ≡ true) × (store ≡ true) × (o ≡ Some d)
passed true true o d k = (refl, refl, k)
passed true false o d k = never d k
passed false store o d k = never d k

-- what lies above a mark is not that mark again
not_repeated : (o : Option Mark) (m : Mark) → above o m.position ≡ true → not (repeats o m) ≡ true
not_repeated None m h = refl
not_repeated (Some kept) m h = grind (arith, nat_tests)

released_due : (i : Inputs) (s : State) (d : Release) → released_by (first (questions i s)).verdict ≡ Some d → DueOf i s d
released_due i s d k =
    let qs = questions i s in
    let x = passed (every_other qs) (of_store qs) (offered qs) d (sym (released-all qs (shape i s).clean) ∙ k) in
    let takes = and_parts _ _ (sym ((shape i s).store d x.2) ∙ x.1) in
    let higher = and_parts _ _ takes.1 in
    let roomy = and_parts _ _ higher.1 in
    record { frame = x.2; others = x.0; higher = higher.0; roomy = roomy.0; charged = ltb-true 0 s.charge (and_parts _ _ roomy.1).0 }

due_released : (i : Inputs) (s : State) (d : Release) → DueOf i s d → released_by (first (questions i s)).verdict ≡ Some d
due_released i s d k =
    let qs = questions i s in
    let takes : store_takes s d ≡ true = rw (not_repeated (s.mark d.pair) d.mark k.higher, k.higher, k.roomy, lt-ltb 0 s.charge k.charged) in
    released-all qs (shape i s).clean ∙ holds (every_other qs) (of_store qs) (offered qs) d k.others ((shape i s).store d k.frame ∙ takes) k.frame
  where
    holds : (others store : Bool) (o : Option Release) (d : Release) → others ≡ true → store ≡ true → o ≡ Some d → cond (others && store) o None ≡ Some d
    holds others store o d e f g = rw (e, f, g)

-- a listening releases just what is due
pub exactly : (i : Inputs) (s : State) (d : Release) → (released_by (first (questions i s)).verdict ≡ Some d → DueOf i s d) × (DueOf i s d → released_by (first (questions i s)).verdict ≡ Some d)
exactly i s d = (released_due i s d, due_released i s d)
