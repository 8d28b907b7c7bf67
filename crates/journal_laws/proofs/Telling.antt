-- A run, call by call.
use Rattle.std.proofs.Common.{◌≡◌, ℕ, ◌+◌, ◌<◌, min, List, [], ◌∷◌, ◌++◌, length, get_or, take, drop, set, sym, refl, ap, ◌∙◌, subst, arith}
use Rattle.std.proofs.lemmas.List.{take_more, take_more_set, drop-drop, drop-set-lt}
use Rattle.marks.specs.declared.mark.Pair.{Pair}
use Rattle.marks.specs.State.{State}
use Rattle.journal_laws.specs.declared.call.Call.{Call}
use Rattle.journal_laws.specs.declared.call.Call.TheVariants.{Raise, SwitchOn}
use Rattle.journal_laws.specs.declared.call.Reply.{Reply}
use Rattle.journal_laws.specs.declared.call.Reply.TheVariants.{Answered, On}
use Rattle.journal_laws.specs.Runs.{Run, begun, raised, switched, NotLower, Spares}
use Rattle.journal_laws.specs.Calls.{Spared, Carries, Tells, nothing, raise, switch, Ran}
use Rattle.journal_laws.proofs.Marks.{law}

spared-push : (q : Pair) (cs : List Call) (c : Call) → Spared q (cs ++ (c ∷ [])) → Spared q cs × Spared q (c ∷ [])
spared-push q [] c h = (tt, h)
spared-push q (Raise p m ∷ cs) c h = let k = spared-push q cs c h.1 in ((h.0, k.0), k.1)
spared-push q (SwitchOn n ∷ cs) c h = spared-push q cs c h

module _ {S : Type 0} (state : S → State) (touches rests : S → S → Type 0) where
  -- some run tells the calls and their replies
  pub record Told (s : S) (cs : List Call) (rs : List Reply) (t : S) : Type 0 where
    pub run : Run (state s) (state t)
    pub tells : Tells state touches rests s cs rs t run

  -- so far i calls, and the places behind them as they were
  pub record SoFar (s : S) (cs : List Call) (before : List Reply) (i : ℕ) (after : List Reply) (t : S) : Type 0 where
    pub told : Told s (take i cs) (take i after) t
    pub rest : drop i after ≡ drop i before

  one : (s t u : S) (cs : List Call) (rs : List Reply) (c : Call) (r : Reply) → Told s cs rs t → Carries state touches rests t c r u → Told s (cs ++ (c ∷ [])) (rs ++ (r ∷ [])) u
  one s t u cs rs (Raise p m) (Answered w) x y = record { run = raised x.run p m w y.meaning; tells = raise p m w x.tells y }
  one s t u cs rs (Raise p m) On x y = absurd y
  one s t u cs rs (SwitchOn n) (Answered w) x y = absurd y
  one s t u cs rs (SwitchOn n) On x y = record { run = switched x.run n y.meaning; tells = switch n x.tells y }

  told_at : (s t : S) (cs ds : List Call) (rs qs : List Reply) → cs ≡ ds → rs ≡ qs → Told s cs rs t → Told s ds qs t
  told_at s t cs ds rs qs e f x = subst (λ (z : List Call). Told s z qs t) e (subst (λ (z : List Reply). Told s cs z t) f x)

  pub none : (s : S) (cs : List Call) (rs : List Reply) → SoFar s cs rs 0 rs s
  none s cs rs = record { told = record { run = begun; tells = nothing }; rest = refl }

  pub step : (s t u : S) (cs : List Call) (before after : List Reply) (i : ℕ) (c d : Call) (r : Reply) →
      i < length cs → i < length after → c ≡ get_or cs i d → SoFar s cs before i after t → Carries state touches rests t c r u → SoFar s cs before (i + 1) (set after i r) u
  step s t u cs before after i c d r h k e x y = record {
    told = told_at s u _ _ _ _ (ap (λ (z : Call). take i cs ++ (z ∷ [])) e ∙ sym (take_more cs i d h)) (sym (take_more_set after i r k)) (one s t u _ _ c r x.told y);
    rest = drop-set-lt (i + 1) after i r (omega arith) ∙ sym (drop-drop 1 i after) ∙ ap (λ z. drop 1 z) x.rest ∙ drop-drop 1 i before;
  }

  pub all : (s t : S) (cs : List Call) (before after : List Reply) (i n : ℕ) → i ≡ n → n ≡ min (length cs) (length before) → SoFar s cs before i after t → Ran state touches rests s cs before n after t
  all s t cs before after i n e m x =
      let y : SoFar s cs before n after t = subst (λ (k : ℕ). SoFar s cs before k after t) e x in
      record { count = m; run = record { run = y.told.run; tells = y.told.tells; lawful = law y.told.run }; rest = y.rest }

  -- calls that spare a pair are a run that does
  pub spares : (q : Pair) (s : S) {cs : List Call} {rs : List Reply} {t : S} {run : Run (state s) (state t)} → Tells state touches rests s cs rs t run → Spared q cs → Spares q run
  spares q s nothing h = tt
  spares q s (raise {cs = cs} p m w x y) h = let k = spared-push q cs (Raise p m) h in (k.1.0, spares q s x k.0)
  spares q s (switch {cs = cs} n x y) h = spares q s x (spared-push q cs (SwitchOn n) h).0

  pub run-rising : (s t : S) (cs : List Call) (before after : List Reply) (n : ℕ) → Ran state touches rests s cs before n after t → (q : Pair) → NotLower ((state s).mark q) ((state t).mark q)
  run-rising s t cs before after n x q = x.run.lawful.rising q

  pub run-spared : (s t : S) (cs : List Call) (before after : List Reply) (n : ℕ) → Ran state touches rests s cs before n after t → (q : Pair) → Spared q (take n cs) → (state t).mark q ≡ (state s).mark q
  run-spared s t cs before after n x q h = x.run.lawful.spared q (spares q s x.run.tells h)
