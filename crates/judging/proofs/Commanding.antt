-- A command's questions, once it is read and allowed.
use Rattle.std.proofs.Common.{◌≡◌, ℕ, Bool, List, length, Some, Ok, Option, Result, sym, ap, ◌∙◌, subst}
use Rattle.answers.specs.declared.refusal.Refusal.{Refusal}
use Rattle.answers.specs.Questions.{Questions, found}
use Rattle.commands.specs.declared.types.Command.{Command}
use Rattle.commands.specs.declared.types.Request.{Request}
use Rattle.commands.specs.Octets.{request_at}
use Rattle.commands.specs.Release.{allowed}
use Rattle.message.specs.declared.types.View.{View}
use Rattle.marks.specs.declared.mark.Mark.{Mark}
use Rattle.marks.specs.declared.mark.Pair.{Pair}
use Rattle.marks.specs.State.{State}
use Rattle.judging.specs.declared.answer.Answer.{Answer}
use Rattle.judging.specs.declared.answer.Release.{Release}
use Rattle.judging.specs.declared.answer.Verdict.{Verdict}
use Rattle.judging.specs.Frames.{pair_of, mark_of, release_of, taken}
use Rattle.judging.specs.Stages.{raise_questions, command_questions}
use Rattle.judging.specs.Effects.{offered, Leaves}

through : {X : Type 0} (o : Option X) (x : X) (a : Answer) (rest : X → Questions Answer) → o ≡ Some x → offered (found o a rest) ≡ offered (rest x)
through {X} o x a rest e = ap (λ (p : Option X). offered (found p a rest)) e

module _ (suspect : Bool) (catalog : List ℕ) (s : State) (os : List ℕ) (v : View) (request : Request) (command : Command) where
  -- they offer the command
  offers : (next : ℕ) → request_at os v.cmd.kind v.cmd.args.start ≡ Ok request → allowed catalog suspect request ≡ Some command → offered (command_questions suspect catalog s next os v) ≡ Some (release_of os v command)
  offers next e f =
      through (taken (request_at os v.cmd.kind v.cmd.args.start)) request _ _ (ap (λ (r : Result Request Refusal). taken r) e)
      ∙ through (allowed catalog suspect request) command _ _ f

  -- what raising leaves is what they leave
  pub command_leaves : (q : Verdict) (t : State) (p : Pair) (m : Mark) → request_at os v.cmd.kind v.cmd.args.start ≡ Ok request → allowed catalog suspect request ≡ Some command → p ≡ pair_of v → m ≡ mark_of os v
      → ((next : ℕ) → Leaves (offered (raise_questions s next (record { pair = p; mark = m; length = length os; command = command }))) s q t)
      → (next : ℕ) → Leaves (offered (command_questions suspect catalog s next os v)) s q t
  command_leaves q t p m e f k l x next =
      let same : ◌≡◌ {A = Release} (record { pair = p; mark = m; length = length os; command = command }) (release_of os v command) =
      λ i. record { pair = k i; mark = l i; length = length os; command = command } in
      subst (λ (o : Option Release). Leaves o s q t) (ap (λ (y : Release). Some y) same ∙ sym (offers next e f)) (x next)
