use Rattle.std.proofs.Common.{ap, ◌∙◌}
use Rattle.sha256.specs.Sha256.{sha256_of}
use Rattle.verdicts.proofs.Pieces.{pieces}
use Rattle.verdicts.proofs.transcript.Transcript.new.Goals as goal

pub invariant_of-result : goal.invariant_of-result
invariant_of-result c =
    let all = c.update-4.ensures _ (c.update-3.ensures _ (c.update-2.ensures _ (c.update.ensures _ c.new-hasher.ensures))) in
    let whole = pieces c.args.before.now c.args.head c.args.middle.now c.args.after.now in
    record { hashed = c.finish.ensures.is _ all ∙ ap sha256_of whole; full = c.finish.ensures.length }
