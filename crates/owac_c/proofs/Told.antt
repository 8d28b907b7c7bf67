-- What is left for the host is read back as it was, and the text that is told is the command's.
use Rattle.std.proofs.Common.{◌≡◌, ℕ, Bool, true, false, List, Some, None, Option, sym, refl, ap, ◌∙◌, subst}
use Rattle.commands.specs.declared.types.Command.TheVariants.{Heartbeat, Queue, Suggest, Remove, State, Seek, Rate, Next, Previous, Text}
use Rattle.commands.specs.Release.{command_text}
use Rattle.marks.specs.declared.mark.CutLeaves.{CutLeaves}
use Rattle.marks.specs.declared.mark.CutLeaves.TheVariants.{Old, New, Torn}
use Rattle.hosts.specs.declared.supply.Supply.{Supply}
use Rattle.hosts.specs.Images.{image_state, switched_on, ListenedIn}
use Rattle.hosts.proofs.Imaged.{switching_goes-on}
use Rattle.line.specs.Hearing.{laid}
use Rattle.judging.specs.declared.answer.Answer.{Answer}
use Rattle.judging.specs.Inputs.{Inputs}
use Rattle.judging.specs.Frames.{message_heard}
use Rattle.judging.specs.Effects.{left_at}
use Rattle.receiver.specs.History.{SwitchGoesOn}
use Rattle.receiver.specs.Frames.{SentIf}
use Rattle.owac_c.specs.declared.host.OwacSupply.{OwacSupply}
use Rattle.owac_c.specs.declared.answer.OwacAnswer.{OwacAnswer}
use Rattle.owac_c.specs.Supplies.{flag_in, flag_as, option_in, option_as, leaves_in, leaves_as, supply_in, supply_as}
use Rattle.owac_c.specs.Answers.{answer_as}
use Rattle.owac_c.specs.Calls.{Heard, Switched, TextsAreTold}

flag-back : (b : Bool) → flag_in (flag_as b) ≡ b
flag-back true = refl
flag-back false = refl

option_back : (o : Option ℕ) → option_in (option_as o) ≡ o
option_back None = refl
option_back (Some n) = refl

leaves-back : (l : CutLeaves) → leaves_in (leaves_as l) ≡ l
leaves-back Old = refl
leaves-back New = refl
leaves-back Torn = refl

pub supply-back : (p : Supply) → supply_in (supply_as p) ≡ p
supply-back p =
    λ i. record { power = record { on = flag-back p.power.on i; charge = p.power.charge; leaves = leaves-back p.power.leaves i }; last = option_back p.last i; floor = option_back p.floor i }

-- a listening with a supply that was read and is left, told in numbers
pub heard : (i : Inputs) (a : Answer) (m m' : List ℕ) (s s' : Supply) (p p' : OwacSupply) (told : OwacAnswer) (work : List ℕ) → s ≡ supply_in p → p' ≡ supply_as s' → told ≡ answer_as a → ListenedIn i m s a m' s'
    → work ≡ laid i.work (left_at a.verdict (message_heard i)) → SentIf i a.verdict a.next → Heard i m p told m' p' work
heard i a m m' s s' p p' told work e f t x w h =
    let back : supply_in p' ≡ s' = ap supply_in f ∙ supply-back s' in
    record {
      answer = a;
      numbers = t;
      goes = subst (λ (q : Supply). ListenedIn i m q a m' (supply_in p')) e (subst (λ (q : Supply). ListenedIn i m s a m' q) (sym back) x);
      plain = f ∙ ap supply_as (sym back);
      left = w;
      sent = h;
    }

-- the same of inputs that are the same
pub heard-at : (i j : Inputs) (m m' : List ℕ) (p p' : OwacSupply) (told : OwacAnswer) (work : List ℕ) → i ≡ j → Heard i m p told m' p' work → Heard j m p told m' p' work
heard-at i j m m' p p' told work e h = subst (λ (x : Inputs). Heard x m p told m' p' work) e h

pub switched : (p : OwacSupply) (n : ℕ) (p' : OwacSupply) → p' ≡ supply_as (switched_on (supply_in p) n) → Switched p n p'
switched p n p' e =
    record {
      left = e;
      goes = λ m. subst (λ (q : Supply). SwitchGoesOn (image_state m (supply_in p)) n (image_state m q)) (sym (ap supply_in e ∙ supply-back (switched_on (supply_in p) n))) (switching_goes-on m (supply_in p) n);
    }

pub texts_are_told : TextsAreTold
unfolding command_text
texts_are_told os (Heartbeat time) = refl
texts_are_told os (Queue track priority earliest until) = refl
texts_are_told os (Suggest track weight) = refl
texts_are_told os (Remove item) = refl
texts_are_told os (State state) = refl
texts_are_told os (Seek milliseconds) = refl
texts_are_told os (Rate percent) = refl
texts_are_told os Next = refl
texts_are_told os Previous = refl
texts_are_told os (Text target mode text) = refl
