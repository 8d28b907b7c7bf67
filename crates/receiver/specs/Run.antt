-- A list of calls, carried out one after the other.
use Rattle.std.specs.Prelude.{◌≡◌, ℕ, min, Bool, List, [], ◌∷◌, ◌++◌, length, take, drop}
use Rattle.line.specs.Hearing.{laid}
use Rattle.marks.specs.State.{State, SwitchedOn}
use Rattle.judging.specs.declared.answer.Lent.{Lent}
use Rattle.judging.specs.declared.answer.Answer.{Answer}
use Rattle.judging.specs.Inputs.{Inputs, inputs_of}
use Rattle.judging.specs.Frames.{message_heard}
use Rattle.judging.specs.Effects.{StoreMoves, left_at}
use Rattle.receiver.specs.declared.call.Call.{Call}
use Rattle.receiver.specs.declared.call.Call.TheVariants.{Listen, SwitchOn}
use Rattle.receiver.specs.declared.call.Reply.{Reply}
use Rattle.receiver.specs.declared.call.Reply.TheVariants.{Heard, On}
use Rattle.receiver.specs.History.{Listens, History, made, listened, switched, Lawful}

-- a buffer of which the first n octets were lent for work: after an answer it holds there what that answer leaves, and behind them what it held
abbrev pub buffer_after : ℕ → Inputs → Answer → List ℕ → List ℕ
buffer_after n i a before = laid n (left_at a.verdict (message_heard i)) ++ drop n before

-- over a kind of store and a kind of verifier
module _ {S V : Type 0} (state : S → State) (touches rests : S → S → Type 0) (known : V → List ℕ → ℕ → Bool) (good : V → List ℕ → ℕ → List ℕ → List ℕ → Bool) where
  -- a listening, in its meaning, in the store's memory and in the buffer
  pub record ListenDone (s : S) (before : List ℕ) (i : Inputs) (n : ℕ) (a : Answer) (t : S) (after : List ℕ) : Type 0 where
    pub meaning : Listens i (state s) a (state t)
    pub memory : StoreMoves touches s a.verdict t
    pub buffer : after ≡ buffer_after n i a before

  -- a switching on
  pub record SwitchDone (s : S) (before : List ℕ) (n : ℕ) (t : S) (after : List ℕ) : Type 0 where
    pub meaning : SwitchedOn (state s) n (state t)
    pub memory : rests s t
    pub buffer : after ≡ before

  -- one call and its reply: the store and the buffer before it, and after it
  abbrev pub Carries : S → List ℕ → Call V → Reply → S → List ℕ → Type 0
  Carries s before (Listen lent work) (Heard a) t after = ListenDone s before (inputs_of known good lent (min work (length before))) (min work (length before)) a t after
  Carries s before (Listen lent work) On t after = ⊥
  Carries s before (SwitchOn n) (Heard a) t after = ⊥
  Carries s before (SwitchOn n) On t after = SwitchDone s before n t after

  -- the history from s on that calls and their replies tell
  pub data Tells (s : S) (before : List ℕ) : List (Call V) → List Reply → (t : S) → List ℕ → History (state t) → Type 0 where
    nothing : Tells s before [] [] s before (made (state s))
    heard : {cs : List (Call V)} {rs : List Reply} {t u : S} {buffer after : List ℕ} {h : History (state t)} (lent : Lent V) (work : ℕ) (a : Answer)
        → Tells s before cs rs t buffer h → (x : ListenDone t buffer (inputs_of known good lent (min work (length buffer))) (min work (length buffer)) a u after)
        → Tells s before (cs ++ (Listen lent work ∷ [])) (rs ++ (Heard a ∷ [])) u after (listened h (inputs_of known good lent (min work (length buffer))) a x.meaning)
    on : {cs : List (Call V)} {rs : List Reply} {t u : S} {buffer after : List ℕ} {h : History (state t)} (n : ℕ)
        → Tells s before cs rs t buffer h → (x : SwitchDone t buffer n u after)
        → Tells s before (cs ++ (SwitchOn n ∷ [])) (rs ++ (On ∷ [])) u after (switched h n x.meaning)

  -- from s to t leads a lawful history of just these calls and replies
  pub record LawfulRun (s : S) (before : List ℕ) (cs : List (Call V)) (rs : List Reply) (t : S) (after : List ℕ) : Type 0 where
    pub history : History (state t)
    pub tells : Tells s before cs rs t after history
    pub lawful : Lawful history

  -- n calls were carried out: all, or as many as there were places for replies; the places behind them are as they were
  pub record Ran (s : S) (before : List ℕ) (cs : List (Call V)) (places : List Reply) (n : ℕ) (replies : List Reply) (t : S) (after : List ℕ) : Type 0 where
    pub count : n ≡ min (length cs) (length places)
    pub run : LawfulRun s before (take n cs) (take n replies) t after
    pub rest : drop n replies ≡ drop n places
