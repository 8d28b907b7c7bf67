-- A floor stays where it is, whatever is called of the store that it makes, and the store below it moves as it does.
use Rattle.std.proofs.Common.{◌≡◌, ℕ, ◌≤◌, Bool, true, false, List, [], ◌∷◌, length, Option, Some, None, Bor, sym, refl, ap, ◌∙◌, subst, arith}
use Rattle.std.specs.List.{slice_get}
use Rattle.std.specs.Option.{option_copied}
use Rattle.std.specs.Slice.{IsItemAt}
use Rattle.std.proofs.lemmas.Option.{slice_get_past, slice_get_read}
use Rattle.judging.specs.declared.answer.Verdict.{Verdict}
use Rattle.judging.specs.declared.answer.Verdict.TheVariants as verdict
use Rattle.judging.specs.declared.answer.Lent.{Lent}
use Rattle.judging.specs.Effects.{StoreMoves, is_cut, whether}
use Rattle.judging.specs.Inputs.{Inputs}
use Rattle.marks.specs.declared.mark.Raised.{Raised}
use Rattle.marks.specs.declared.mark.Raised.TheVariants as raised
use Rattle.marks.specs.State.{State, RaiseMoves}
use Rattle.owac.specs.declared.pile.Call.{Call}
use Rattle.owac.specs.declared.pile.Reply.{Reply}
use Rattle.owac.specs.declared.pile.Reply.TheVariants as reply
use Rattle.owac.specs.Calls.{Replies, CallMoves, on_floors}
use Rattle.owac.specs.declared.pile.Laid.{Laid}
use Rattle.owac.specs.Laid.{on_laid, under, height, LaidMoves}

-- a move of a floor
abbrev pub Lifted : {F S : Type 0} → (F → S) → (F → Option ℕ) → (S → S → Type 0) → F → F → Type 0
Lifted under height moves s t = LaidMoves (moves (under s) (under t)) (height s) (height t)

module _ {F S : Type 0} (under : F → S) (height : F → Option ℕ) (touches rests : S → S → Type 0) where
  still : (s t : F) → t ≡ s → (under t ≡ under s) × (height t ≡ height s)
  still s t e = (ap under e, ap height e)

  by-cut : (s t : F) (cut : Bool) → whether cut (Lifted under height touches s t) (t ≡ s) → whether cut (touches (under s) (under t)) (under t ≡ under s) × (height t ≡ height s)
  by-cut s t true m = (m.below, m.height)
  by-cut s t false e = still s t e

  by_verdict : (s t : F) (v : Verdict) → StoreMoves (Lifted under height touches) s v t → StoreMoves touches (under s) v (under t) × (height t ≡ height s)
  by_verdict s t verdict.Quiet e = still s t e
  by_verdict s t verdict.Duplicate e = still s t e
  by_verdict s t (verdict.Refused refusal) m = by-cut s t (is_cut refusal) m
  by_verdict s t (verdict.Released d) m = (m.below, m.height)

  by-raise : (s t : F) (w : Raised) → RaiseMoves (Lifted under height touches) s w t → RaiseMoves touches (under s) w (under t) × (height t ≡ height s)
  by-raise s t raised.Off e = still s t e
  by-raise s t raised.Low e = still s t e
  by-raise s t raised.Full e = still s t e
  by-raise s t raised.Cut m = (m.below, m.height)
  by-raise s t raised.Done m = (m.below, m.height)

  pub floored : (s t : F) (r : Reply) → CallMoves (Lifted under height touches) (Lifted under height rests) s r t → CallMoves touches rests (under s) r (under t) × (height t ≡ height s)
  floored s t (reply.Raised w) m = by-raise s t w m
  floored s t reply.On m = (m.below, m.height)
  floored s t (reply.Mark o) e = still s t e
  floored s t (reply.Room b) e = still s t e
  floored s t (reply.Heard a) m = by_verdict s t a.verdict m

laid_same : (h k : Option ℕ) (s t : State) → h ≡ k → s ≡ t → on_laid h s ≡ on_laid k t
laid_same h k s t eh es = ap (λ x. on_laid x s) eh ∙ ap (on_laid k) es

-- what is read of a list at a place
pub item_copied : (xs : List ℕ) (i : ℕ) (r : Option (Bor ℕ)) → IsItemAt xs i r → option_copied r ≡ slice_get xs i
item_copied xs i None h = sym (slice_get_past xs i h.3)
item_copied xs i (Some x) h = sym (slice_get_read xs (length xs) i x.now refl h.3.0 h.1)

-- the floors of a list, one on the other
stacked : (os : List ℕ) (s : State) → length os ≤ 3 → on_laid (slice_get os 2) (on_laid (slice_get os 1) (on_laid (slice_get os 0) s)) ≡ on_floors os s
stacked [] s l = refl
stacked (a ∷ []) s l = refl
stacked (a ∷ b ∷ []) s l = refl
stacked (a ∷ b ∷ c ∷ []) s l = refl
stacked (a ∷ b ∷ c ∷ d ∷ os) s l = absurd (omega (arith, l))

-- a call of a store under three places for floors, seen from below and by the list of the floors
module _ {S V : Type 0} (state : S → State) (touches rests : S → S → Type 0) (inputs : Lent V → Inputs) (call : Call V) (reply : Reply) where
  -- a move of the low floor, of the middle one, of the high one
  abbrev pub Low : (S → S → Type 0) → Laid S → Laid S → Type 0
  Low moves = Lifted under height moves

  abbrev pub Middle : (S → S → Type 0) → Laid (Laid S) → Laid (Laid S) → Type 0
  Middle moves = Lifted under height (Low moves)

  abbrev pub High : (S → S → Type 0) → Laid (Laid (Laid S)) → Laid (Laid (Laid S)) → Type 0
  High moves = Lifted under height (Middle moves)

  -- what the store under three places means
  abbrev pub meaning : Laid (Laid (Laid S)) → State
  meaning s = on_laid (height s) (on_laid (height (under s)) (on_laid (height (under (under s))) (state (under (under (under s))))))

  meant : (os : List ℕ) (a b c : Option ℕ) (s : Laid (Laid (Laid S))) (store : S) → length os ≤ 3 → a ≡ slice_get os 0 → b ≡ slice_get os 1 → c ≡ slice_get os 2
      → height s ≡ c → height (under s) ≡ b → height (under (under s)) ≡ a → under (under (under s)) ≡ store → meaning s ≡ on_floors os (state store)
  meant os a b c s store l ea eb ec hc hb ha e =
      laid_same _ _ _ _ (hc ∙ ec) (laid_same _ _ _ _ (hb ∙ eb) (laid_same _ _ _ _ (ha ∙ ea) (ap state e))) ∙ stacked os (state store) l

  pub by_three : (os : List ℕ) (a b c : Option ℕ) (store left : S) (low low' : Laid S) (middle middle' : Laid (Laid S)) (high high' : Laid (Laid (Laid S)))
      → length os ≤ 3 → a ≡ slice_get os 0 → b ≡ slice_get os 1 → c ≡ slice_get os 2
      → under low ≡ store → height low ≡ a → under middle ≡ low → height middle ≡ b → under high ≡ middle → height high ≡ c
      → middle' ≡ under high' → low' ≡ under middle' → left ≡ under low'
      → Replies inputs (meaning high) call reply (meaning high') → CallMoves (High touches) (High rests) high reply high'
      → Replies inputs (on_floors os (state store)) call reply (on_floors os (state left))
  by_three os a b c store left low low' middle middle' high high' l ea eb ec ul hl um hm uh hh em el e r m =
      let top = floored under height (Middle touches) (Middle rests) high high' reply m in
      let mid = floored under height (Low touches) (Low rests) (under high) (under high') reply top.0 in
      let bottom = floored under height touches rests (under (under high)) (under (under high')) reply mid.0 in
      let hb : height (under high) ≡ b = ap height uh ∙ hm in
      let ha : height (under (under high)) ≡ a = ap (λ x. height (under x)) uh ∙ ap height um ∙ hl in
      let from : under (under (under high)) ≡ store = ap (λ x. under (under x)) uh ∙ ap under um ∙ ul in
      let to : left ≡ under (under (under high')) = e ∙ ap under el ∙ ap (λ x. under (under x)) em in
      let before : meaning high ≡ on_floors os (state store) = meant os a b c high store l ea eb ec hh hb ha from in
      let after : meaning high' ≡ on_floors os (state left) = meant os a b c high' left l ea eb ec (top.1 ∙ hh) (mid.1 ∙ hb) (bottom.1 ∙ ha) (sym to) in
      let P : State → Type 0 = λ x. Replies inputs x call reply (meaning high') in
      let Q : State → Type 0 = λ y. Replies inputs (on_floors os (state store)) call reply y in
      subst Q after (subst P before r)
