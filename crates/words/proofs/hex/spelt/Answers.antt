use Rattle.std.proofs.Common.{◌≡◌, ◌+◌, ◌/◌, ◌%◌, length, vec_items, sym, ◌∙◌, subst, arith}
use Rattle.words.specs.Hex.{SpeltTo, Spells}
use Rattle.words.proofs.Spelling.{spelt_more, spells_all, spells_one, pair_octet, unspelt}
use Rattle.words.proofs.hex.spelt.Goals as goal

pub loop-high-preserved : goal.loop-high-preserved
loop-high-preserved c =
    let pairs = c.as_chunks.ensures in (
      omega (arith, c.in_ok-push.ensures.len, c.loop-high.invariant.0),
      subst (λ os. SpeltTo c.args.digits.now os (c.loop-high.high-index + 1)) (sym c.in_ok-push.ensures.items)
          (spelt_more c.args.digits.now _ _ _ (omega (arith, c.loop-high.found.ok.0, c.loop-high.invariant.0)) c.loop-high.invariant.1
          (pair_octet _ _ _ _ pairs.front pairs.front_len c.loop-high-test.true c.octet.ensures.is ∙ c.in-Some.is)),
    )

pub returns : goal.returns
returns c =
    let pairs = c.as_chunks.ensures in
    let even : length c.args.digits.now % 2 ≡ 0 = omega (arith, pairs.back_len, c.in_default-empty.len_below) in
    let half : c.loop-high.high-index ≡ length c.args.digits.now / 2 = omega (arith, c.loop-high.auto.high-index-end, c.loop-high-test.false, pairs.front_len) in
    let s : Spells c.args.digits.now (vec_items c.loop-high.found) = spells_all c.args.digits.now _ c.loop-high.high-index even half (omega (arith, c.loop-high.found.ok.0, c.loop-high.invariant.0)) c.loop-high.invariant.1 in
    record { reads = s; finds = λ os t. spells_one c.args.digits.now _ _ s t }

pub returns-in_default-octet-clause-finds : goal.returns-in_default-octet-clause-finds
returns-in_default-octet-clause-finds c = λ os s.
    let pairs = c.as_chunks.ensures in
    unspelt _ os _ (omega (arith, pairs.front_len, c.loop-high-test.true)) (pair_octet _ _ _ _ pairs.front pairs.front_len c.loop-high-test.true c.octet.ensures.is ∙ c.in_default-octet.is) s

pub returns-in_default-clause-finds : goal.returns-in_default-clause-finds
returns-in_default-clause-finds c = λ os s. omega (arith, s.long, c.as_chunks.ensures.back_len, c.in_default.len_at_least)
