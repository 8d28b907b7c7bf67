use Rattle.std.proofs.Common.{◌≤◌, length, Ok, Err, sym, ap, ◌∙◌, arith}
use Rattle.std.proofs.lemmas.Result.{err_from_is_err_and}
use Rattle.items.proofs.Seeking.{ends_miss, ends_beyond, ends_fault, ends_hit, goes_on}
use Rattle.items.proofs.map.lookup.Goals as goal

pub returns-then-i-clause-is : goal.returns-then-i-clause-is
returns-then-i-clause-is c = ends_beyond c.args.octets.now c.args.key c.in_ok-head.head.argument c.loop-i.i c.loop-i.guard.place.now c.new-guard.result.old c.args.place.now c.loop-i.invariant.2 c.new-guard.ensures.old c.loop-i-test.true _ _ c.at-reader-in-loop-i.ensures.octets c.at-reader-in-loop-i.ensures.place c.if-i.true c.fault.result c.fault.ensures

pub returns-in_err-at-clause-is : goal.returns-in_err-at-clause-is
returns-in_err-at-clause-is c =
    let p = err_from_is_err_and c.from_residual-in_err-at.result c.from_residual-in_err-at.ensures.1 in
    p.1 ∙ ap Err p.2 ∙ ends_fault c.args.octets.now c.args.key c.in_ok-head.head.argument c.loop-i.i c.loop-i.guard.place.now c.new-guard.result.old c.args.place.now c.loop-i.invariant.2 c.new-guard.ensures.old c.loop-i-test.true _ _ c.at-reader-in-loop-i.ensures.octets c.at-reader-in-loop-i.ensures.place (omega arith) c.in_err-at.field-0.0 c.in_err-at.ensures.is

pub returns-in-Break-clause-is : goal.returns-in-Break-clause-is
returns-in-Break-clause-is c = ends_hit c.args.octets.now c.args.key c.in_ok-head.head.argument c.loop-i.i c.loop-i.guard.place.now c.new-guard.result.old c.args.place.now c.loop-i.invariant.2 c.new-guard.ensures.old c.loop-i-test.true _ _ c.at-reader-in-loop-i.ensures.octets c.at-reader-in-loop-i.ensures.place (omega arith) c.in-Break.at (ap Ok (sym c.in-Break.is) ∙ c.in_ok-at.ensures.is)

pub loop-i-preserved : goal.loop-i-preserved
loop-i-preserved c =
    let os = c.at-reader-in-loop-i.result.octets.now in
    let ahead : c.in-Continue.at ≤ length os = c.in_ok-at.ensures.within c.in-Continue.at c.in-Continue.is in (
      omega (arith, ahead, ap length c.at-reader-in-loop-i.ensures.octets),
      omega arith,
      goes_on c.args.octets.now c.args.key c.in_ok-head.head.argument c.loop-i.i c.loop-i.guard.place.now c.new-guard.result.old c.args.place.now c.loop-i.invariant.2 c.new-guard.ensures.old c.loop-i-test.true _ _ c.at-reader-in-loop-i.ensures.octets c.at-reader-in-loop-i.ensures.place (omega arith) c.in-Continue.at (ap Ok (sym c.in-Continue.is) ∙ c.in_ok-at.ensures.is),
    )

pub returns-clause-is : goal.returns-clause-is
returns-clause-is c = ends_miss c.args.octets.now c.args.key c.in_ok-head.head.argument c.loop-i.i c.loop-i.guard.place.now c.new-guard.result.old c.args.place.now c.loop-i.invariant.2 c.new-guard.ensures.old c.loop-i-test.false
