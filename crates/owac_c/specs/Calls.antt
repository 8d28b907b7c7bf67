-- What the receiver's calls promise of what the host lends.
use Rattle.std.specs.Prelude.{◌≡◌, ℕ, cond, List, ◌++◌, length, drop, nat_le}
use Rattle.line.specs.Hearing.{laid}
use Rattle.commands.specs.declared.types.Command.{Command}
use Rattle.commands.specs.Release.{command_text}
use Rattle.judging.specs.declared.answer.Answer.{Answer}
use Rattle.judging.specs.Inputs.{Inputs}
use Rattle.judging.specs.Frames.{message_heard}
use Rattle.judging.specs.Effects.{left_at}
use Rattle.receiver.specs.History.{SwitchGoesOn}
use Rattle.receiver.specs.Frames.{SentIf}
use Rattle.hosts.specs.Images.{image_state, ListenedIn, switched_on}
use Rattle.owac_c.specs.declared.host.OwacSupply.{OwacSupply}
use Rattle.owac_c.specs.declared.answer.OwacCommand.{OwacCommand}
use Rattle.owac_c.specs.declared.answer.OwacAnswer.{OwacAnswer}
use Rattle.owac_c.specs.Supplies.{supply_in, supply_as}
use Rattle.owac_c.specs.Answers.{answer_as, command_as, text_command}

-- a listening: some answer is told in numbers, image and supply go on as a listening with that answer has them, the supply is left in its plain
-- form, the work buffer holds the message after a release and else zeros, and a released frame is the one that the writer makes
pub record Heard (i : Inputs) (m : List ℕ) (p : OwacSupply) (told : OwacAnswer) (m' : List ℕ) (p' : OwacSupply) (work : List ℕ) : Type 0 where
  pub answer : Answer
  pub numbers : told ≡ answer_as answer
  pub goes : ListenedIn i m (supply_in p) answer m' (supply_in p')
  pub plain : p' ≡ supply_as (supply_in p')
  pub left : work ≡ laid i.work (left_at answer.verdict (message_heard i))
  pub sent : SentIf i answer.verdict answer.next

-- a switching on for n writes: the supply is left switched on, and over every image this goes on lawfully
pub record Switched (p : OwacSupply) (n : ℕ) (p' : OwacSupply) : Type 0 where
  pub left : p' ≡ supply_as (switched_on (supply_in p) n)
  pub goes : (m : List ℕ) → SwitchGoesOn (image_state m (supply_in p)) n (image_state m (supply_in p'))

-- the text of a command in numbers
abbrev pub text_in : List ℕ → OwacCommand → List ℕ
text_in os c = command_text os (text_command c)

-- it is the text of the command that the numbers tell
abbrev pub TextsAreTold : Type 0
TextsAreTold = (os : List ℕ) (c : Command) → text_in os (command_as c) ≡ command_text os c

-- octets laid at the front of a buffer that has room for them, and else the buffer as it was
abbrev pub placed : List ℕ → List ℕ → List ℕ
placed os out = cond (nat_le (length os) (length out)) (os ++ drop (length os) out) out
