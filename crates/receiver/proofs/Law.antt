-- The law, by induction over a history.
use Rattle.std.proofs.Common.{◌≡◌, ℕ, Bool, true, false, cond, ◌⊎◌, List, [], ◌∷◌, Some, None, Option, sym, refl, ap, ◌∙◌, subst, inl, inr, ⊎_elim, arith}
use Rattle.std.proofs.lemmas.Bool.Decides.{nat_tests, not_from_Decides}
use Rattle.answers.specs.Questions.{first}
use Rattle.marks.specs.declared.mark.Pair.{Pair}
use Rattle.marks.specs.declared.mark.Position.{Position}
use Rattle.marks.specs.declared.mark.Mark.{Mark}
use Rattle.marks.specs.Positions.{Earlier, before, above, same_pair}
use Rattle.marks.specs.State.{State, Others, CutShort, SwitchedOn}
use Rattle.marks.proofs.Pairs.{pair_decides}
use Rattle.judging.specs.declared.answer.Release.{Release}
use Rattle.judging.specs.declared.answer.Verdict.{Verdict}
use Rattle.judging.specs.declared.answer.Verdict.TheVariants.{Quiet, Duplicate, Refused, Released}
use Rattle.judging.specs.declared.answer.Answer.{Answer}
use Rattle.judging.specs.Inputs.{Inputs}
use Rattle.judging.specs.Questions.{questions}
use Rattle.judging.specs.Effects.{released_by, offered, is_cut, whether, CutWrite, Leaves}
use Rattle.receiver.specs.History.{Listens, History, made, listened, switched, stood_at, stood_by, with_mark, first_mark, releases, cuts_that_stood, Later, Rising, Among, Highest, MarksHighest, Kept, Due, Exact, Lawful, ListenGoesOn, SwitchGoesOn}
use Rattle.receiver.proofs.Releasing.{DueOf, exactly}

-- the order of positions

earlier_trans : (a b c : Position) → Earlier a b → Earlier b c → Earlier a c
earlier_trans a b c (inl x) (inl y) = inl (omega arith)
earlier_trans a b c (inl x) (inr y) = inl (omega arith)
earlier_trans a b c (inr x) (inl y) = inl (omega arith)
earlier_trans a b c (inr x) (inr y) = inr (omega arith, omega arith)

before-earlier : (a b : Position) → before a b ≡ true → Earlier a b
before-earlier a b h = grind (arith, nat_tests)

earlier-before : (a b : Position) → Earlier a b → before a b ≡ true
earlier-before a b (inl x) = grind (arith, nat_tests)
earlier-before a b (inr x) = grind (arith, nat_tests)

-- the highest of one pair's marks in a history

module _ (o : Option Mark) (xs ys : List Mark) where
  -- an equal mark is as high
  at : {k l : Option Mark} → l ≡ k → Highest k o xs ys → Highest l o xs ys
  at e = subst (λ (x : Option Mark). Highest x o xs ys) (sym e)

  module _ (m : Mark) where
    -- what lies above the highest lies above all
    above-all : (k : Option Mark) → Highest k o xs ys → above k m.position ≡ true → (n : Mark) → Among n o xs ys → Later m n
    above-all None top up n i = absurd (top n i)
    above-all (Some k) top up n i =
        let l = before-earlier k.position m.position up in
        ⊎_elim (λ e. subst (λ (x : Mark). Later m x) (sym e) l) (λ x. earlier_trans n.position k.position m.position x l) (top.1 n i)

    -- and what lies above all lies above the highest
    all_above : (k : Option Mark) → Highest k o xs ys → ((n : Mark) → Among n o xs ys → Later m n) → above k m.position ≡ true
    all_above None top f = refl
    all_above (Some k) top f = earlier-before k.position m.position (f k top.0)

    -- one more, above all, is the highest
    more-released : ((n : Mark) → Among n o xs ys → Later m n) → Highest (Some m) o (m ∷ xs) ys
    more-released f = (inr (inl (inl refl)), go)
      where
        go : (n : Mark) → Among n o (m ∷ xs) ys → (n ≡ m) ⊎ Later m n
        go n (inl e) = inr (f n (inl e))
        go n (inr (inl (inl e))) = inl e
        go n (inr (inl (inr i))) = inr (f n (inr (inl i)))
        go n (inr (inr i)) = inr (f n (inr (inr i)))

    more_cut : ((n : Mark) → Among n o xs ys → Later m n) → Highest (Some m) o xs (m ∷ ys)
    more_cut f = (inr (inr (inl refl)), go)
      where
        go : (n : Mark) → Among n o xs (m ∷ ys) → (n ≡ m) ⊎ Later m n
        go n (inl e) = inr (f n (inl e))
        go n (inr (inl i)) = inr (f n (inr (inl i)))
        go n (inr (inr (inl e))) = inl e
        go n (inr (inr (inr i))) = inr (f n (inr (inr i)))

-- when the receiver is made, the mark is the first mark

first-none : (n : Mark) → Among n None [] [] → ⊥
first-none n (inl e) = let z : ◌≡◌ {A = ℕ} 0 1 = cc in omega arith
first-none n (inr (inl i)) = i
first-none n (inr (inr i)) = i

first_some : (m n : Mark) → Among n (Some m) [] [] → (n ≡ m) ⊎ Later m n
first_some m n (inl e) = inl (cc)
first_some m n (inr (inl i)) = absurd i
first_some m n (inr (inr i)) = absurd i

first-highest : (k : Option Mark) → Highest k k [] []
first-highest None = first-none
first-highest (Some m) = (inl refl, first_some m)

-- one listening, for a pair p with these marks so far

module _ (s t : State) (p : Pair) (o : Option Mark) (xs ys : List Mark) where
  -- the marks of the pair lie below d's, where d is of this pair and above the mark kept
  below : (d : Release) → d.pair ≡ p → above (s.mark d.pair) d.mark.position ≡ true → Highest (s.mark p) o xs ys → (n : Mark) → Among n o xs ys → Later d.mark n
  below d e up top = above-all o xs ys d.mark (s.mark p) top (subst (λ (x : Pair). above (s.mark x) d.mark.position ≡ true) e up)

  -- p is not d's pair
  other : (d : Release) → same_pair d.pair p ≡ false → p ≡ d.pair → ⊥
  other d h e = not_from_Decides (same_pair d.pair p) (pair_decides d.pair p) h (sym e)

  highest-released : (d : Release) (b : Bool) → same_pair d.pair p ≡ b → above (s.mark d.pair) d.mark.position ≡ true → t.mark d.pair ≡ Some d.mark → Others s d.pair t →
      Highest (s.mark p) o xs ys → Highest (t.mark p) o (cond b (d.mark ∷ xs) xs) ys
  highest-released d true h up new others top =
      let e = (pair_decides d.pair p).0 h in at o (d.mark ∷ xs) ys (ap t.mark (sym e) ∙ new) (more-released o xs ys d.mark (below d e up top))
  highest-released d false h up new others top = at o xs ys (others p (other d h)) top

  highest-stood : (d : Release) (b : Bool) → same_pair d.pair p ≡ b → above (s.mark d.pair) d.mark.position ≡ true → t.mark d.pair ≡ Some d.mark → Others s d.pair t →
      Highest (s.mark p) o xs ys → Highest (t.mark p) o xs (cond b (d.mark ∷ ys) ys)
  highest-stood d true h up new others top =
      let e = (pair_decides d.pair p).0 h in at o xs (d.mark ∷ ys) (ap t.mark (sym e) ∙ new) (more_cut o xs ys d.mark (below d e up top))
  highest-stood d false h up new others top = at o xs ys (others p (other d h)) top

  -- a cut write that did not stand moved no mark
  unmoved : (d : Release) (b : Bool) → same_pair d.pair p ≡ b → t.mark d.pair ≡ s.mark d.pair → Others s d.pair t → t.mark p ≡ s.mark p
  unmoved d true h old others = let e = (pair_decides d.pair p).0 h in ap t.mark (sym e) ∙ old ∙ ap s.mark e
  unmoved d false h old others = others p (other d h)

  highest-cut : (d : Release) (stood : Bool) → above (s.mark d.pair) d.mark.position ≡ true → CutShort s d.pair d.mark t stood →
      Highest (s.mark p) o xs ys → Highest (t.mark p) o xs (with_mark (cond stood (Some d) None) p ys)
  highest-cut d true up left top = highest-stood d (same_pair d.pair p) refl up left.mark left.others top
  highest-cut d false up left top = at o xs ys (unmoved d (same_pair d.pair p) refl left.mark left.others) top

  highest-same : t ≡ s → Highest (s.mark p) o xs ys → Highest (t.mark p) o xs ys
  highest-same e top = at o xs ys (ap (λ (x : State). x.mark p) e) top

  highest-refused : (offer : Option Release) (cut : Bool) (x : whether cut (CutWrite offer s t) (t ≡ s)) →
      Highest (s.mark p) o xs ys → Highest (t.mark p) o xs (with_mark (stood_at offer s t cut x) p ys)
  highest-refused offer true x top = highest-cut x.release x.stood x.begun.higher x.left top
  highest-refused offer false x top = highest-same x top

  highest-listened : (offer : Option Release) (v : Verdict) (x : Leaves offer s v t) →
      Highest (s.mark p) o xs ys → Highest (t.mark p) o (with_mark (released_by v) p xs) (with_mark (stood_by offer s v t x) p ys)
  highest-listened offer Quiet x top = highest-same x top
  highest-listened offer Duplicate x top = highest-same x top
  highest-listened offer (Refused refusal) x top = highest-refused offer (is_cut refusal) x top
  highest-listened offer (Released d) x top = highest-released d (same_pair d.pair p) refl x.begun.higher x.left.mark x.left.others top

  rising-released : (d : Release) (b : Bool) → same_pair d.pair p ≡ b → above (s.mark d.pair) d.mark.position ≡ true → Highest (s.mark p) o xs ys → Rising xs → Rising (cond b (d.mark ∷ xs) xs)
  rising-released d true h up top r = (λ n i. below d ((pair_decides d.pair p).0 h) up top n (inr (inl i)), r)
  rising-released d false h up top r = r

  rising-listened : (offer : Option Release) (v : Verdict) → Leaves offer s v t → Highest (s.mark p) o xs ys → Rising xs → Rising (with_mark (released_by v) p xs)
  rising-listened offer Quiet x top r = r
  rising-listened offer Duplicate x top r = r
  rising-listened offer (Refused refusal) x top r = r
  rising-listened offer (Released d) x top r = rising-released d (same_pair d.pair p) refl x.begun.higher top r

-- histories

marks-highest : {t : State} (h : History t) → MarksHighest h
marks-highest (made s) p = first-highest (s.mark p)
marks-highest (listened {s} {t} h i a step) p =
    highest-listened s t p (first_mark h p) (releases h p) (cuts_that_stood h p) (offered (questions i s)) a.verdict step.leaves (marks-highest h p)
marks-highest (switched h n step) p = at (first_mark h p) (releases h p) (cuts_that_stood h p) (step.marks p) (marks-highest h p)

kept : {t : State} (h : History t) → Kept h
kept (made s) = marks-highest (made s)
kept (listened h i a step) = (kept h, marks-highest (listened h i a step))
kept (switched h n step) = (kept h, marks-highest (switched h n step))

rising : {t : State} (h : History t) (p : Pair) → Rising (releases h p)
rising (made s) p = tt
rising (listened {s} {t} h i a step) p =
    rising-listened s t p (first_mark h p) (releases h p) (cuts_that_stood h p) (offered (questions i s)) a.verdict step.leaves (marks-highest h p) (rising h p)
rising (switched h n step) p = rising h p

-- due by the history's marks is due by the store's

module _ {s : State} (h : History s) (i : Inputs) (d : Release) where
  due_by-store : Due h i d → DueOf i s d
  due_by-store x = record {
    frame = x.frame;
    others = x.others;
    higher = all_above (first_mark h d.pair) (releases h d.pair) (cuts_that_stood h d.pair) d.mark (s.mark d.pair) (marks-highest h d.pair) x.above;
    roomy = x.room;
    charged = x.charged;
  }

  due_by-history : DueOf i s d → Due h i d
  due_by-history x = record {
    frame = x.frame;
    others = x.others;
    above = above-all (first_mark h d.pair) (releases h d.pair) (cuts_that_stood h d.pair) d.mark (s.mark d.pair) (marks-highest h d.pair) x.higher;
    room = x.roomy;
    charged = x.charged;
  }

  just_due : (a : Answer) → a ≡ first (questions i s) → (released_by a.verdict ≡ Some d → Due h i d) × (Due h i d → released_by a.verdict ≡ Some d)
  just_due a e =
      let k = ap (λ (x : Answer). released_by x.verdict) e in
      (λ x. due_by-history ((exactly i s d).0 (sym k ∙ x)), λ x. k ∙ (exactly i s d).1 (due_by-store x))

exact : {t : State} (h : History t) → Exact h
exact (made s) = tt
exact (listened h i a step) = (exact h, λ d. just_due h i d a step.answer)
exact (switched h n step) = exact h

pub law : {t : State} (h : History t) → Lawful h
law h = record { rising = rising h; kept = kept h; exact = exact h }

-- a call goes on from any history

pub goes_on : (i : Inputs) (s : State) (a : Answer) (t : State) → a ≡ first (questions i s) → Leaves (offered (questions i s)) s a.verdict t → ListenGoesOn i s a t
goes_on i s a t e x = let step : Listens i s a t = record { answer = e; leaves = x } in record { step = step; lawful = λ h. law (listened h i a step) }

pub switch-goes-on : (s : State) (n : ℕ) (t : State) → SwitchedOn s n t → SwitchGoesOn s n t
switch-goes-on s n t x = record { step = x; lawful = λ h. law (switched h n x) }
