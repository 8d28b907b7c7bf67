use Rattle.std.proofs.Common.{◌≡◌, refl, ◌∙◌, arith, length, ◌/◌}
use Rattle.std.proofs.lemmas.List.{length-set}
use Rattle.sha256.specs.Sha256.{scheduled, word_of}
use Rattle.sha256.proofs.Turns.{put_word, first_word, word_read, later_word}
use Rattle.sha256.proofs.schedule.schedule.Goals as goal

pub first-init : goal.first-init
unfolding scheduled
first-init c = (refl, refl)

pub first-preserved : goal.first-preserved
first-preserved c =
    let word : c.from_be_bytes.result ≡ word_of c.args.block.now c.first.t = word_read _ c.args.block.now (length c.args.block.now / 4) c.first.t _ c.as_chunks.ensures.front (omega arith) (omega arith) c.from_be_bytes.ensures in (
      length-set _ _ _ ∙ c.first.invariant.0,
      put_word _ c.first.w c.first.t _ (omega arith) c.first.invariant.0 c.first.invariant.1 (word ∙ first_word c.args.block.now _ c.first.t (omega arith)),
    )

pub rest-preserved : goal.rest-preserved
rest-preserved c = (
  length-set _ _ _ ∙ c.rest.invariant.0,
  put_word c.args.block.now c.rest.w c.rest.t _ (omega arith) c.rest.invariant.0 c.rest.invariant.1
      (later_word c.args.block.now c.rest.w c.rest.t _ _ (omega arith) c.small_sigma_0.ensures c.small_sigma_1.ensures),
)
