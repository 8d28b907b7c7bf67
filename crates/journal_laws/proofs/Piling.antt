-- A pile of floors acts as its highest.
use Rattle.std.proofs.Common.{◌≡◌, ℕ, ◌<◌, ◌≤◌, max, Bool, true, false, cond, eqb, List, [], ◌∷◌, ◌++◌, Some, None, Option, sym, refl, ap, ◌∙◌, subst, ⊎_elim, arith, append_assoc, append-nil, MatchOption}
use Rattle.std.proofs.lemmas.Bool.{cases_lt, cond-true, cond-false}
use Rattle.std.proofs.lemmas.Bool.Decides.{nat_tests}
use Rattle.std.specs.List.{fold, reduce}
use Rattle.marks.specs.declared.mark.Pair.{Pair}
use Rattle.marks.specs.declared.mark.Mark.{Mark}
use Rattle.marks.specs.declared.mark.Raised.{Raised}
use Rattle.marks.specs.declared.mark.Raised.TheVariants.{Off, Low, Full, Cut, Done}
use Rattle.marks.specs.Positions.{before, above}
use Rattle.marks.specs.State.{State}
use Rattle.journal.specs.Floors.{base, floored, on_floor}
use Rattle.journal_laws.specs.Piles.{pile, Alike, ActsAs}

is-under : (f : ℕ) (m : Mark) → m.position.epoch < f → before m.position (base f).position ≡ true
is-under f m h = grind (arith, nat_tests)

is-over : (f : ℕ) (m : Mark) → f ≤ m.position.epoch → before m.position (base f).position ≡ false
is-over f m h = grind (arith, nat_tests)

under : (f : ℕ) (m : Mark) → m.position.epoch < f → floored f (Some m) ≡ Some (base f)
under f m h = cond-true (before m.position (base f).position) _ _ (is-under f m h)

over : (f : ℕ) (m : Mark) → f ≤ m.position.epoch → floored f (Some m) ≡ Some m
over f m h = cond-false (before m.position (base f).position) _ _ (is-over f m h)

-- a floor on the first mark of an epoch
on-base : (h e : ℕ) → floored h (Some (base e)) ≡ Some (base (max h e))
on-base h e =
    ⊎_elim
    (λ l. let k : h ≡ max h e = omega arith in under h (base e) l ∙ ap (λ x. Some (base x)) k)
    (λ g. let k : e ≡ max h e = omega arith in over h (base e) g ∙ ap (λ x. Some (base x)) k)
    (cases_lt e h)

pub twice : (h e : ℕ) (o : Option Mark) → floored h (floored e o) ≡ floored (max h e) o
twice h e None = on-base h e
twice h e (Some m) =
    ⊎_elim
    (λ l. let k : m.position.epoch < max h e = omega arith in ap (λ x. floored h x) (under e m l) ∙ on-base h e ∙ sym (under (max h e) m k))
    (λ g.
    ap (λ x. floored h x) (over e m g)
    ∙ ⊎_elim
    (λ l. let k : h ≡ max h e = omega arith in ap (λ x. floored x (Some m)) k)
    (λ u. let k : max h e ≤ m.position.epoch = omega arith in over h m u ∙ sym (over (max h e) m k))
    (cases_lt m.position.epoch h))
    (cases_lt m.position.epoch e)

-- the answer, from the parts that it hangs on
abbrev answer_by : Bool → Option Mark → Bool → ℕ → Mark → Raised
answer_by on o room n m = cond on (cond (above o m.position) (cond room (cond (eqb n 0) Cut Done) Full) Low) Off

same_answer : (m : Mark) {a a' c c' : Bool} {b b' : Option Mark} {d d' : ℕ} → a ≡ a' → b ≡ b' → c ≡ c' → d ≡ d' → answer_by a b c d m ≡ answer_by a' b' c' d' m
same_answer m {a} {a'} {c} {c'} {b} {b'} {d} {d'} e f g h =
    ap (λ x. answer_by x b c d m) e ∙ ap (λ x. answer_by a' x c d m) f ∙ ap (λ x. answer_by a' b' x d m) g ∙ ap (λ x. answer_by a' b' c' x m) h

alike : (s t : State) → ((p : Pair) → t.mark p ≡ s.mark p) → ((p : Pair) → t.room p ≡ s.room p) → t.on ≡ s.on → t.charge ≡ s.charge → Alike s t
alike s t a b c d = record { marks = a; rooms = b; power = c; charges = d; answers = λ p m. same_answer m c (a p) (b p) d }

pile-push : (fs : List ℕ) (e : ℕ) (s : State) → pile (fs ++ (e ∷ [])) s ≡ pile fs (on_floor e s)
pile-push [] e s = refl
pile-push (f ∷ fs) e s = ap (λ x. on_floor f x) (pile-push fs e s)

one-floor : (e : ℕ) → ActsAs e (e ∷ [])
one-floor e s = alike _ _ (λ p. refl) (λ p. refl) refl refl

one_more : (h e : ℕ) (fs : List ℕ) → ActsAs h fs → ActsAs (max h e) (fs ++ (e ∷ []))
one_more h e fs a s =
    let x = a (on_floor e s) in
    let k = pile-push fs e s in
    alike _ _ (λ p. ap (λ z. z.mark p) k ∙ x.marks p ∙ twice h e (s.mark p)) (λ p. ap (λ z. z.room p) k ∙ x.rooms p) (ap (λ z. z.on) k ∙ x.power) (ap (λ z. z.charge) k ∙ x.charges)

heap : (h : ℕ) (fs es : List ℕ) → ActsAs h fs → ActsAs (fold max h es) (fs ++ es)
heap h fs [] a = subst (λ x. ActsAs h x) (sym (append-nil fs)) a
heap h fs (e ∷ es) a = subst (λ x. ActsAs (fold max (max h e) es) x) (append_assoc fs (e ∷ []) es) (heap (max h e) (fs ++ (e ∷ [])) es (one_more h e fs a))

-- a pile of floors acts as the highest of them
pub highest : (es : List ℕ) (o : Option ℕ) → o ≡ reduce max es → MatchOption o (es ≡ []) (λ f. ActsAs f es)
highest [] o e = subst (λ x. MatchOption x (◌≡◌ {A = List ℕ} [] []) (λ f. ActsAs f [])) (sym e) refl
highest (e ∷ es) o h = subst (λ x. MatchOption x (e ∷ es ≡ []) (λ f. ActsAs f (e ∷ es))) (sym h) (heap e (e ∷ []) es (one-floor e))
