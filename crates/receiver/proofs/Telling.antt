-- A run, call by call.
use Rattle.std.proofs.Common.{◌≡◌, ℕ, ◌+◌, ◌-◌, ◌<◌, min, Bool, List, [], ◌∷◌, ◌++◌, length, get_or, take, drop, set, sym, refl, ap, ◌∙◌, subst, arith}
use Rattle.std.proofs.lemmas.List.{take_more, take_more_set, drop-drop, drop-set-lt}
use Rattle.marks.specs.State.{State}
use Rattle.judging.specs.declared.answer.Lent.{Lent}
use Rattle.judging.specs.declared.answer.Answer.{Answer}
use Rattle.receiver.specs.declared.call.Call.{Call}
use Rattle.receiver.specs.declared.call.Call.TheVariants.{Listen, SwitchOn}
use Rattle.receiver.specs.declared.call.Reply.{Reply}
use Rattle.receiver.specs.declared.call.Reply.TheVariants.{Heard, On}
use Rattle.line.specs.Hearing.{laid}
use Rattle.judging.specs.Frames.{message_heard}
use Rattle.judging.specs.Effects.{StoreMoves, left_at}
use Rattle.receiver.specs.History.{Listens, History, made, listened, switched}
use Rattle.judging.specs.Inputs.{inputs_of}
use Rattle.receiver.specs.Run.{Carries, Tells, nothing, heard, on, Ran}
use Rattle.receiver.proofs.Law.{law}

module _ {S V : Type 0} (state : S → State) (touches rests : S → S → Type 0) (known : V → List ℕ → ℕ → Bool) (good : V → List ℕ → ℕ → List ℕ → List ℕ → Bool) where
  -- some history tells the calls and their replies
  pub record Told (s : S) (before : List ℕ) (cs : List (Call V)) (rs : List Reply) (t : S) (after : List ℕ) : Type 0 where
    pub history : History (state t)
    pub tells : Tells state touches rests known good s before cs rs t after history

  -- so far i calls, and the places behind them as they were
  pub record SoFar (s : S) (before : List ℕ) (cs : List (Call V)) (places : List Reply) (i : ℕ) (replies : List Reply) (t : S) (after : List ℕ) : Type 0 where
    pub told : Told s before (take i cs) (take i replies) t after
    pub rest : drop i replies ≡ drop i places

  one : (s t u : S) (before buffer after : List ℕ) (cs : List (Call V)) (rs : List Reply) (c : Call V) (r : Reply) → Told s before cs rs t buffer → Carries state touches rests known good t buffer c r u after
      → Told s before (cs ++ (c ∷ [])) (rs ++ (r ∷ [])) u after
  one s t u before buffer after cs rs (Listen lent work) (Heard a) x y =
      record { history = listened x.history (inputs_of known good lent (min work (length buffer))) a y.meaning; tells = heard lent work a x.tells y }
  one s t u before buffer after cs rs (Listen lent work) On x y = absurd y
  one s t u before buffer after cs rs (SwitchOn n) (Heard a) x y = absurd y
  one s t u before buffer after cs rs (SwitchOn n) On x y = record { history = switched x.history n y.meaning; tells = on n x.tells y }

  told_at : (s t : S) (before after : List ℕ) (cs ds : List (Call V)) (rs qs : List Reply) → cs ≡ ds → rs ≡ qs → Told s before cs rs t after → Told s before ds qs t after
  told_at s t before after cs ds rs qs e f x = subst (λ (z : List (Call V)). Told s before z qs t after) e (subst (λ (z : List Reply). Told s before cs z t after) f x)

  pub none : (s : S) (before : List ℕ) (cs : List (Call V)) (rs : List Reply) → SoFar s before cs rs 0 rs s before
  none s before cs rs = record { told = record { history = made (state s); tells = nothing }; rest = refl }

  pub step : (s t u : S) (before buffer after : List ℕ) (cs : List (Call V)) (places replies : List Reply) (i : ℕ) (c d : Call V) (r : Reply) →
      i < length cs → i < length replies → c ≡ get_or cs i d → SoFar s before cs places i replies t buffer → Carries state touches rests known good t buffer c r u after → SoFar s before cs places (i + 1) (set replies i r) u after
  step s t u before buffer after cs places replies i c d r h k e x y = record {
    told = told_at s u before after _ _ _ _ (ap (λ (z : Call V). take i cs ++ (z ∷ [])) e ∙ sym (take_more cs i d h)) (sym (take_more_set replies i r k)) (one s t u before buffer after _ _ c r x.told y);
    rest = drop-set-lt (i + 1) replies i r (omega arith) ∙ sym (drop-drop 1 i replies) ∙ ap (λ z. drop 1 z) x.rest ∙ drop-drop 1 i places;
  }

  pub all : (s t : S) (before after : List ℕ) (cs : List (Call V)) (places replies : List Reply) (i n : ℕ) → i ≡ n → n ≡ min (length cs) (length places) → SoFar s before cs places i replies t after
      → Ran state touches rests known good s before cs places n replies t after
  all s t before after cs places replies i n e m x =
      let y : SoFar s before cs places n replies t after = subst (λ (k : ℕ). SoFar s before cs places k replies t after) e x in
      record { count = m; run = record { history = y.told.history; tells = y.told.tells; lawful = law y.told.history }; rest = y.rest }

  -- a listening is what its call asks for
  pub hears : (s t : S) (before : List ℕ) (lent : Lent V) (work : ℕ) (a : Answer) (c : Call V) (part n : ℕ) (w : List ℕ)
      → c ≡ Listen lent work → n ≡ min work (length before) → part ≡ n
      → Listens (inputs_of known good lent part) (state s) a (state t) → StoreMoves touches s a.verdict t
      → w ≡ laid part (left_at a.verdict (message_heard (inputs_of known good lent part)))
      → Carries state touches rests known good s before c (Heard a) t (w ++ drop (n - 0) (drop 0 before))
  hears s t before lent work a c part n w e m k x y z =
      let d = k ∙ m in
      let o : n - 0 ≡ min work (length before) = omega arith in
      subst (λ (f : Call V). Carries state touches rests known good s before f (Heard a) t (w ++ drop (n - 0) (drop 0 before))) (sym e)
      (record {
        meaning = subst (λ (j : ℕ). Listens (inputs_of known good lent j) (state s) a (state t)) d x;
        memory = y;
        buffer =
            ap (λ (j : ℕ). w ++ drop j before) o
            ∙ ap (λ (u : List ℕ). u ++ drop (min work (length before)) before) (z ∙ ap (λ (j : ℕ). laid j (left_at a.verdict (message_heard (inputs_of known good lent j)))) d);
      })
