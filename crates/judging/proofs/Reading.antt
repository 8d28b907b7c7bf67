-- The questions on a message's octets, by what reading them came to.
use Rattle.std.proofs.Common.{◌≡◌, ℕ, Bool, true, false, cond, List, Some, None, Ok, Err, Option, Result, sym, refl, ◌∙◌, subst, arith}
use Rattle.answers.specs.declared.refusal.Refusal.{Refusal}
use Rattle.answers.specs.declared.refusal.Refusal.TheVariants.{CborParse, Indefinite, NotDeterministic, Schema}
use Rattle.answers.specs.Questions.{Questions, ◌⨟◌, ask, found, first}
use Rattle.message.specs.declared.types.View.{View}
use Rattle.message.specs.Messages.{message_of, or_schema, is_readable, is_definite, is_deterministic}
use Rattle.message.specs.Parts.{view_of}
use Rattle.marks.specs.State.{State}
use Rattle.judging.specs.declared.answer.Answer.{Answer}
use Rattle.judging.specs.declared.answer.Release.{Release}
use Rattle.judging.specs.declared.answer.Verdict.{Verdict}
use Rattle.judging.specs.declared.answer.Verdict.TheVariants.{Refused}
use Rattle.judging.specs.Inputs.{Conditions}
use Rattle.judging.specs.Questions.{refused}
use Rattle.judging.specs.Stages.{field_questions, message_questions}
use Rattle.judging.specs.Effects.{offered, is_cut, whether, CutWrite, Leaves, StoreMoves}

-- the four questions, and what reading answers by them
abbrev rows : Bool → Bool → Bool → Option View → ℕ → (View → Questions Answer) → Questions Answer
rows r d e o next rest =
    ask r (refused CborParse next) ⨟ ask d (refused Indefinite next) ⨟ ask e (refused NotDeterministic next) ⨟ found o (refused Schema next) rest

abbrev reads : Bool → Bool → Bool → Option View → Result View Refusal
reads r d e o = cond r (cond d (cond e (or_schema o) (Err NotDeterministic)) (Err Indefinite)) (Err CborParse)

-- all four hold
pub record Goes (qs rest : Questions Answer) : Type 0 where
  pub first : first qs ≡ first rest
  pub offered : offered qs ≡ offered rest

-- one does not
pub record Stops (qs : Questions Answer) (e : Refusal) (next : ℕ) : Type 0 where
  pub first : first qs ≡ refused e next
  pub uncut : is_cut e ≡ false

never : {X : Type 0} (v : View) (e : Refusal) → Err e ≡ Ok v → X
never v e k = let z : ◌≡◌ {A = ℕ} 0 1 = cc in absurd (omega arith)

goes : (r d e : Bool) (o : Option View) (next : ℕ) (rest : View → Questions Answer) (v : View) → reads r d e o ≡ Ok v → Goes (rows r d e o next rest) (rest v)
goes true true true (Some w) next rest v k = let x : w ≡ v = cc in subst (λ (y : View). Goes (rows true true true (Some w) next rest) (rest y)) x (record { first = refl; offered = refl })
goes true true true None next rest v k = never v Schema k
goes true true false o next rest v k = never v NotDeterministic k
goes true false e o next rest v k = never v Indefinite k
goes false d e o next rest v k = never v CborParse k

stops_at : (x e : Refusal) (next : ℕ) (qs : Questions Answer) → ◌≡◌ {A = Result View Refusal} (Err x) (Err e) → first qs ≡ refused x next → is_cut x ≡ false → Stops qs e next
stops_at x e next qs k f u = let y : x ≡ e = cc in subst (λ (z : Refusal). Stops qs z next) y (record { first = f; uncut = u })

stops : (r d e : Bool) (o : Option View) (next : ℕ) (rest : View → Questions Answer) (x : Refusal) → reads r d e o ≡ Err x → Stops (rows r d e o next rest) x next
stops true true true (Some w) next rest x k = never w x (sym k)
stops true true true None next rest x k = stops_at Schema x next _ k refl refl
stops true true false o next rest x k = stops_at NotDeterministic x next _ k refl refl
stops true false e o next rest x k = stops_at Indefinite x next _ k refl refl
stops false d e o next rest x k = stops_at CborParse x next _ k refl refl

module _ (c : Conditions) (s : State) (next : ℕ) (os : List ℕ) where
  pub read_goes : (v : View) → message_of os ≡ Ok v → Goes (message_questions c s next os) (field_questions c s next os v)
  unfolding message_of
  read_goes v k = goes (is_readable os) (is_definite os) (is_deterministic os) (view_of os) next (field_questions c s next os) v k

  pub read-stops : (e : Refusal) → message_of os ≡ Err e → Stops (message_questions c s next os) e next
  unfolding message_of
  read-stops e k = stops (is_readable os) (is_definite os) (is_deterministic os) (view_of os) next (field_questions c s next os) e k

-- a refusal that is no cut leaves the store as it is
pub refused-leaves : (offer : Option Release) (s : State) (e : Refusal) → is_cut e ≡ false → Leaves offer s (Refused e) s
refused-leaves offer s e u = subst (λ (b : Bool). whether b (CutWrite offer s s) (s ≡ s)) (sym u) refl

pub refused_moves : {S : Type 0} (touches : S → S → Type 0) (s : S) (e : Refusal) → is_cut e ≡ false → StoreMoves touches s (Refused e) s
refused_moves touches s e u = subst (λ (b : Bool). whether b (touches s s) (s ≡ s)) (sym u) refl

-- what is answered and left by the questions that follow is answered and left by all of them
pub goes_first : (r : Answer) (qs rest : Questions Answer) → Goes qs rest → r ≡ first rest → r ≡ first qs
goes_first r qs rest g e = e ∙ sym g.first

pub goes-leaves : (qs rest : Questions Answer) (s t : State) (v : Verdict) → Goes qs rest → Leaves (offered rest) s v t → Leaves (offered qs) s v t
goes-leaves qs rest s t v g l = subst (λ (o : Option Release). Leaves o s v t) (sym g.offered) l

-- the fields stand in the octets that were read
pub at-octets : (c : Conditions) (s : State) (next : ℕ) (os held : List ℕ) (v : View) → held ≡ os → message_of os ≡ Ok v → Goes (message_questions c s next os) (field_questions c s next held v)
at-octets c s next os held v e k = subst (λ (x : List ℕ). Goes (message_questions c s next os) (field_questions c s next x v)) (sym e) (read_goes c s next os v k)
