use Rattle.std.proofs.Common.{◌≡◌, ℕ, List, length, ap, ◌∙◌}
use Rattle.commands.specs.declared.types.Command.{Command}
use Rattle.commands.specs.Release.{command_text}
use Rattle.owac_c.specs.Calls.{text_in, placed}
use Rattle.owac_c.proofs.Told.{texts_are_told}
use Rattle.owac_c.proofs.receiver_calls.owac_text.Goals as goal

pub returns : goal.returns
returns c =
    let found : c.text-found.result.now ≡ text_in c.args.work.now c.args.command.now =
    c.text-found.ensures ∙ ap (λ (x : Command). command_text c.args.work.now x) c.text_command.ensures in
    record { length = ap length found; out = c.place.ensures ∙ ap (λ (t : List ℕ). placed t c.args.out.now) found; told = texts_are_told }
