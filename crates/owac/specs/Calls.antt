-- Calls of a store and of the receiver over it, and what they are answered.
use Rattle.std.specs.Prelude.{◌≡◌, ℕ, List, [], ◌∷◌}
use Rattle.journal.specs.Floors.{on_floor}
use Rattle.judging.specs.declared.answer.Lent.{Lent}
use Rattle.judging.specs.Effects.{StoreMoves}
use Rattle.judging.specs.Inputs.{Inputs}
use Rattle.marks.specs.State.{State, Raises, RaiseMoves, SwitchedOn}
use Rattle.receiver.specs.History.{Listens}
use Rattle.owac.specs.declared.pile.Call.{Call}
use Rattle.owac.specs.declared.pile.Call.TheVariants.{Raise, SwitchOn, ReadMark, HasRoom, Listen}
use Rattle.owac.specs.declared.pile.Reply.{Reply}
use Rattle.owac.specs.declared.pile.Reply.TheVariants.{Raised, On, Mark, Room, Heard}

-- the reply to a call, and the state that it leaves; a listening is lent its inputs
abbrev pub Replies : {V : Type 0} → (Lent V → Inputs) → State → Call V → Reply → State → Type 0
Replies inputs s (Raise p m) (Raised w) t = Raises s p m w t
Replies inputs s (Raise p m) On t = ⊥
Replies inputs s (Raise p m) (Mark o) t = ⊥
Replies inputs s (Raise p m) (Room b) t = ⊥
Replies inputs s (Raise p m) (Heard a) t = ⊥
Replies inputs s (SwitchOn n) (Raised w) t = ⊥
Replies inputs s (SwitchOn n) On t = SwitchedOn s n t
Replies inputs s (SwitchOn n) (Mark o) t = ⊥
Replies inputs s (SwitchOn n) (Room b) t = ⊥
Replies inputs s (SwitchOn n) (Heard a) t = ⊥
Replies inputs s (ReadMark p) (Raised w) t = ⊥
Replies inputs s (ReadMark p) On t = ⊥
Replies inputs s (ReadMark p) (Mark o) t = (o ≡ s.mark p) × (t ≡ s)
Replies inputs s (ReadMark p) (Room b) t = ⊥
Replies inputs s (ReadMark p) (Heard a) t = ⊥
Replies inputs s (HasRoom p) (Raised w) t = ⊥
Replies inputs s (HasRoom p) On t = ⊥
Replies inputs s (HasRoom p) (Mark o) t = ⊥
Replies inputs s (HasRoom p) (Room b) t = (b ≡ s.room p) × (t ≡ s)
Replies inputs s (HasRoom p) (Heard a) t = ⊥
Replies inputs s (Listen lent) (Raised w) t = ⊥
Replies inputs s (Listen lent) On t = ⊥
Replies inputs s (Listen lent) (Mark o) t = ⊥
Replies inputs s (Listen lent) (Room b) t = ⊥
Replies inputs s (Listen lent) (Heard a) t = Listens (inputs lent) s a t

-- what a call leaves of a store's memory
abbrev pub CallMoves : {S : Type 0} → (S → S → Type 0) → (S → S → Type 0) → S → Reply → S → Type 0
CallMoves touches rests s (Raised w) t = RaiseMoves touches s w t
CallMoves touches rests s On t = rests s t
CallMoves touches rests s (Mark o) t = t ≡ s
CallMoves touches rests s (Room b) t = t ≡ s
CallMoves touches rests s (Heard a) t = StoreMoves touches s a.verdict t

-- what floors on a store mean, the lowest first
abbrev pub on_floors : List ℕ → State → State
on_floors [] s = s
on_floors (a ∷ rest) s = on_floors rest (on_floor a s)
