-- The law of runs, by induction.
use Rattle.std.proofs.Common.{◌≡◌, Bool, true, false, cond, ◌&&◌, Some, None, Option, sym, refl, ap, ◌∙◌, subst, inl, inr, ⊎_elim, arith}
use Rattle.std.proofs.lemmas.Bool.{cases_Bool, and_parts, cond-true, cond-false, true≢false}
use Rattle.std.proofs.lemmas.Bool.Decides.{nat_tests, not_from_Decides}
use Rattle.marks.specs.declared.mark.Pair.{Pair}
use Rattle.marks.specs.declared.mark.Position.{Position}
use Rattle.marks.specs.declared.mark.Mark.{Mark}
use Rattle.marks.specs.declared.mark.Raised.{Raised}
use Rattle.marks.specs.declared.mark.Raised.TheVariants.{Off, Low, Full, Cut, Done}
use Rattle.marks.specs.Positions.{before, above, same_pair}
use Rattle.marks.specs.State.{State, Others, CutShort, Raises}
use Rattle.marks.proofs.Pairs.{pair_decides}
use Rattle.journal_laws.specs.Runs.{Run, begun, raised, switched, wrote, last_mark, NotLower, Spares, Lawful}

before_trans : (a b c : Position) → before a b ≡ true → before b c ≡ true → before a c ≡ true
before_trans a b c h k = grind (arith, nat_tests)

above_trans : (o : Option Mark) (a b : Mark) → above o a.position ≡ true → before a.position b.position ≡ true → above o b.position ≡ true
above_trans None a b h k = refl
above_trans (Some m) a b h k = before_trans m.position a.position b.position h k

pub not_lower_trans : (a b c : Option Mark) → NotLower a b → NotLower b c → NotLower a c
not_lower_trans a b c (inl e) y = subst (λ x. NotLower x c) e y
not_lower_trans a b c (inr x) (inl f) = inr (x.0, f ∙ x.1, x.2)
not_lower_trans a b c (inr x) (inr y) = inr (y.0, y.1, above_trans a x.0 y.0 x.2 (subst (λ o. above o y.0.position ≡ true) x.1 y.2))

-- one raise

module _ (s t : State) (p q : Pair) (m : Mark) where
  put : t.mark p ≡ Some m → Others s p t → (b : Bool) → same_pair q p ≡ b → t.mark q ≡ cond b (Some m) (s.mark q)
  put e o true h = ap (λ x. t.mark x) ((pair_decides q p).0 h) ∙ e
  put e o false h = o q (not_from_Decides (same_pair q p) (pair_decides q p) h)

  left : t.mark p ≡ s.mark p → Others s p t → (b : Bool) → same_pair q p ≡ b → t.mark q ≡ s.mark q
  left e o true h = let k = (pair_decides q p).0 h in ap (λ x. t.mark x) k ∙ e ∙ ap (λ x. s.mark x) (sym k)
  left e o false h = o q (not_from_Decides (same_pair q p) (pair_decides q p) h)

  cut : (stood : Bool) → CutShort s p m t stood → t.mark q ≡ cond (stood && same_pair q p) (Some m) (s.mark q)
  cut true x = put x.mark x.others (same_pair q p) refl
  cut false x = left x.mark x.others (same_pair q p) refl

  -- each mark after a raise
  pub after : (w : Raised) (x : Raises s p m w t) → t.mark q ≡ cond (wrote s p m w t x && same_pair q p) (Some m) (s.mark q)
  after Off x = ap (λ z. z.mark q) x.same
  after Low x = ap (λ z. z.mark q) x.same
  after Full x = ap (λ z. z.mark q) x.same
  after Cut x = cut x.1.0 x.1.1
  after Done x = put x.1.mark x.1.others (same_pair q p) refl

  -- no other pair's mark moves
  pub others : (w : Raised) → Raises s p m w t → (q ≡ p → ⊥) → t.mark q ≡ s.mark q
  others Off x ne = ap (λ z. z.mark q) x.same
  others Low x ne = ap (λ z. z.mark q) x.same
  others Full x ne = ap (λ z. z.mark q) x.same
  others Cut x ne = x.1.1.others q ne
  others Done x ne = x.1.others q ne

  -- what is written lies above the mark before
  higher : (w : Raised) (x : Raises s p m w t) → wrote s p m w t x ≡ true → above (s.mark p) m.position ≡ true
  higher Off x h = absurd (true≢false (sym h))
  higher Low x h = absurd (true≢false (sym h))
  higher Full x h = absurd (true≢false (sym h))
  higher Cut x h = x.0.higher
  higher Done x h = x.0.higher

  pub rises : (w : Raised) (x : Raises s p m w t) → NotLower (s.mark q) (t.mark q)
  rises w x =
      let b = wrote s p m w t x && same_pair q p in
      ⊎_elim
      (λ h.
      let hs = and_parts _ _ h in
      inr (m, after w x ∙ cond-true b _ _ h, subst (λ z. above (s.mark z) m.position ≡ true) (sym ((pair_decides q p).0 hs.1)) (higher w x hs.0)))
      (λ h. inl (after w x ∙ cond-false b _ _ h))
      (cases_Bool b)

-- runs

rising : {s t : State} (run : Run s t) (q : Pair) → NotLower (s.mark q) (t.mark q)
rising begun q = inl refl
rising (raised {t} {u} run p m w x) q = not_lower_trans _ (t.mark q) (u.mark q) (rising run q) (rises t u p q m w x)
rising (switched {t} {u} run n x) q = not_lower_trans _ (t.mark q) (u.mark q) (rising run q) (inl (x.marks q))

last : {s t : State} (run : Run s t) (q : Pair) → t.mark q ≡ last_mark run q
last begun q = refl
last (raised {t} {u} run p m w x) q = after t u p q m w x ∙ ap (λ o. cond (wrote t p m w u x && same_pair q p) (Some m) o) (last run q)
last (switched run n x) q = x.marks q ∙ last run q

spared : {s t : State} (run : Run s t) (q : Pair) → Spares q run → t.mark q ≡ s.mark q
spared begun q h = refl
spared (raised {t} {u} run p m w x) q h = others t u p q m w x h.0 ∙ spared run q h.1
spared (switched run n x) q h = x.marks q ∙ spared run q h

pub law : {s t : State} (run : Run s t) → Lawful run
law run = record { rising = rising run; last = last run; spared = spared run }
