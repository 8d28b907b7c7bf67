use Rattle.std.proofs.Common.{◌≡◌, ◌+◌, ◌-◌, ◌≤◌, ◌∷◌, ◌++◌, length, Some, sym, ap, ◌∙◌, subst, arith}
use Rattle.std.specs.Option.{option_map}
use Rattle.line.specs.Flags.{first_flag}
use Rattle.line.proofs.Views.{view, view-next, sign}
use Rattle.line.specs.declared.listener.Sign.TheVariants.{Flag}
use Rattle.line.proofs.Bodies.{on_from, nothing_left}
use Rattle.line.proofs.Listens.{behind, Sound, sound-next, goes_on, grows, short, seven_seen, flag-place}
use Rattle.line.proofs.Places.{heard-more, heard-from}
use Rattle.line.proofs.scan.first_flag_end.Goals as goal

pub returns-in-Flag : goal.returns-in-Flag
returns-in-Flag c =
    let f : sign (view c.loop-k.listener) c.bit.result ≡ Flag = sym c.step.ensures.sign ∙ c.in-Flag.is in
    let more = heard-more c.args.burst.now c.loop-k.k c.args.count c.loop-k-test.true ∙ ap (λ b. b ∷ on_from c.args.burst.now c.args.count (c.loop-k.k + 1)) (sym c.bit.ensures.bit) in
    let n = seven_seen (view c.loop-k.listener) c.bit.result f in
    let e : c.loop-k.k - 7 + 8 ≡ c.loop-k.k + 1 = omega (arith, c.loop-k.invariant.1) in
    sym (ap (λ o. option_map (λ k. k + 8) o)
    (ap (first_flag c.args.start) (heard-from c.args.burst.now c.args.start c.args.count) ∙ c.loop-k.invariant.2
    ∙ ap (λ t. first_flag (c.loop-k.k - length (behind (view c.loop-k.listener))) (behind (view c.loop-k.listener) ++ t)) more
    ∙ flag-place (view c.loop-k.listener) c.bit.result c.loop-k.k (on_from c.args.burst.now c.args.count (c.loop-k.k + 1)) f)
    ∙ ap (λ j. Some j) e)

pub loop-k-preserved : goal.loop-k-preserved
loop-k-preserved c =
    let l = view c.loop-k.listener in
    let b = c.bit.result in
    let f : sign (view c.loop-k.listener) c.bit.result ≡ Flag → ⊥ = λ e. c.in_default.not-Flag (c.step.ensures.sign ∙ e) in
    let more = heard-more c.args.burst.now c.loop-k.k c.args.count c.loop-k-test.true ∙ ap (λ b. b ∷ on_from c.args.burst.now c.args.count (c.loop-k.k + 1)) (sym c.bit.ensures.bit) in
    let g = grows (view c.loop-k.listener) c.bit.result c.loop-k.invariant.0 in
    let o = c.loop-k.invariant.1 in
    let on = goes_on (view c.loop-k.listener) c.bit.result c.loop-k.k (on_from c.args.burst.now c.args.count (c.loop-k.k + 1)) c.loop-k.invariant.0 (omega arith) f in
    let x = ap view c.step.ensures.next ∙ view-next c.loop-k.listener c.bit.result c.loop-k.invariant.0 in
    let r = subst (λ v. Sound v × (length (behind v) + c.args.start ≤ c.loop-k.k + 1)
    × (first_flag c.args.start (on_from c.args.burst.now c.args.count c.args.start)
    ≡ first_flag (c.loop-k.k + 1 - length (behind v)) (behind v ++ on_from c.args.burst.now c.args.count (c.loop-k.k + 1)))) (sym x) (
      sound-next l.phase b l.ones l.zero l.broken c.loop-k.invariant.0,
      omega arith,
      c.loop-k.invariant.2 ∙ ap (λ t. first_flag (c.loop-k.k - length (behind (view c.loop-k.listener))) (behind (view c.loop-k.listener) ++ t)) more ∙ on,
    ) in
    (r.0, r.1, r.2, c.bit.ensures.last)

pub returns : goal.returns
returns c =
    sym (ap (λ o. option_map (λ k. k + 8) o)
    (ap (first_flag c.args.start) (heard-from c.args.burst.now c.args.start c.args.count) ∙ c.loop-k.invariant.2
    ∙ nothing_left c.args.burst.now c.args.count c.loop-k.k (view c.loop-k.listener) c.loop-k-test.false (short (view c.loop-k.listener) c.loop-k.invariant.0)))
