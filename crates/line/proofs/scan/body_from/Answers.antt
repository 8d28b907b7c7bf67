use Rattle.std.proofs.Common.{◌≡◌, ◌+◌, ◌-◌, ◌*◌, ◌<◌, ◌≤◌, length, sym, refl, ap, ◌∙◌, subst, rules, Ok, Err, Some, Result, Option, arith}
use Rattle.std.specs.Result.{MatchResult, IsOkAnd}
use Rattle.line.specs.declared.scan.Body.{Body}
use Rattle.line.specs.declared.scan.Flaw.{Flaw}
use Rattle.std.specs.List.{AllByRecursion as All}
use Rattle.std.proofs.ByRecursion.{All-from_get_or}
use Rattle.line.proofs.Views.{view, view-next, sign}
use Rattle.line.specs.declared.listener.Sign.TheVariants.{Bit, Flag}
use Rattle.line.specs.Scanning.{closed_as}
use Rattle.line.proofs.Bodies.{Scans, bits_held, opens, further, reopens, closes, found, too_long, ends-unclosed, ends, ends-empty}
use Rattle.line.proofs.Listens.{packs, broken-same, not_a_bit}
use Rattle.line.proofs.scan.body_from.Goals as goal
use Rattle.line.proofs.scan.body_from.Goals.{in-Flag+else-k-from, in_default+else-k-from-2+in-Bit, in_default+else-k-from-2+in_default-sign}

mapped : {P : Body → Option Body → Type 0} (a : Result Body Flaw) (r : Result (Option Body) Flaw) → MatchResult a (λ x. IsOkAnd r (P x)) (λ e. r ≡ Err e) → ((x : Body) (y : Option Body) → P x y → y ≡ Some x) → r ≡ found a
mapped (Ok x) (Ok y) h s = ap (λ t. Ok t) (s x y h)
mapped (Ok x) (Err f) h s = absurd h
mapped (Err f) r h s = h

pub loop-k-init : goal.loop-k-init
loop-k-init c =
    let o = opens c.args.burst.now c.args.count c.args.first c.args.first c.new-packer.result c.args.work.now (omega arith) (λ m h. (m, h, refl)) c.new-packer.ensures.0 c.new-packer.ensures.1 in (
      subst (λ l. Scans c.args.burst.now c.args.count c.args.first c.args.first c.args.first l c.new-packer.result c.args.work.now) (ap view (sym c.inside-listener.ensures)) o,
      All-from_get_or (λ o. o < 256) c.args.work.now 0 (λ i h. (c.type_inv.work i).fits),
      c.at-decoder.ensures,
    )

pub returns-then-k-from : goal.returns-then-k-from
returns-then-k-from c =
    let f : sign (view c.loop-k.listener) c.bit-bit.result ≡ Flag = sym c.step.ensures.sign ∙ c.in-Flag.is in
    let b = ap (λ l. l.broken) (ap view c.step.ensures.next ∙ view-next c.loop-k.listener c.bit-bit.result c.loop-k.invariant.0.sound) ∙ broken-same (view c.loop-k.listener) c.bit-bit.result f in
    closes c.args.burst.now c.args.count c.args.first c.loop-k.from c.loop-k.k (view c.loop-k.listener) c.loop-k.packer c.loop-k.work c.bit-bit.result
    c.loop-k-test.true c.bit-bit.ensures.bit c.loop-k.invariant.0 _ f c.if-k-from.true (omega (arith, c.requires.room, c.loop-k.auto.work)) c.loop-k.invariant.1
    (mapped c.closed.result c.map.result c.map.ensures.cases (λ x y h. search rules) ∙ ap found (c.closed.ensures ∙ ap (λ x. closed_as x c.loop-k.packer.fill c.loop-k.packer.octets (c.loop-k.k - 7)) b))

pub returns-then-k-count : goal.returns-then-k-count
returns-then-k-count c =
    too_long c.args.burst.now c.args.count c.args.first c.loop-k.from c.loop-k.k (view c.loop-k.listener) c.loop-k.packer c.loop-k.work c.bit-bit.result
    c.loop-k-test.true c.bit-bit.ensures.bit c.loop-k.invariant.0 c.loop-k.work _ (λ f. c.in_default.not-Flag (c.step.ensures.sign ∙ f)) c.if-k-from-2.true c.if-k-count.true (ap (λ f. Err f) c.new.ensures)

pub returns-else-k-count : goal.returns-else-k-count
returns-else-k-count c =
    ends-unclosed c.args.burst.now c.args.count c.args.first c.loop-k.from c.loop-k.k (view c.loop-k.listener) c.loop-k.packer c.loop-k.work c.bit-bit.result
    c.loop-k-test.true c.bit-bit.ensures.bit c.loop-k.invariant.0 c.loop-k.work _ (λ f. c.in_default.not-Flag (c.step.ensures.sign ∙ f)) c.if-k-count.false (ap (λ f. Err f) c.new-else-k-count.ensures)

pub loop-k-preserved : goal.loop-k-preserved
loop-k-preserved c =
    elim c.match-step.branch [
      | in-Flag+else-k-from w ↦
          let f : sign (view c.loop-k.listener) c.bit-bit.result ≡ Flag = sym c.step.ensures.sign ∙ w.in-Flag.is in
          let s = reopens c.args.burst.now c.args.count c.args.first c.loop-k.from c.loop-k.k (view c.loop-k.listener) c.loop-k.packer c.loop-k.work c.bit-bit.result
          c.loop-k-test.true c.bit-bit.ensures.bit c.loop-k.invariant.0 (view c.match-step.listener) c.match-step.packer c.match-step.work f w.if-k-from.false
          (ap view (w.listener-is ∙ w.inside-listener-in-Flag.ensures)) (ap (λ p. p.octets) w.packer-is ∙ w.new-packer-in-Flag.ensures.0) (ap (λ p. p.fill) w.packer-is ∙ w.new-packer-in-Flag.ensures.1) in (
            subst (λ x. Scans c.args.burst.now c.args.count c.args.first x (c.loop-k.k + 1) (view c.match-step.listener) c.match-step.packer c.match-step.work) (sym w.from-is) s,
            subst (All (λ o. o < 256)) (sym w.work-is) c.loop-k.invariant.1,
            c.bit-bit.ensures.last,
          )
      | in_default+else-k-from-2+in-Bit w ↦
          let f : sign (view c.loop-k.listener) c.bit-bit.result ≡ Flag → ⊥ = λ e. w.in_default.not-Flag (c.step.ensures.sign ∙ e) in
          let bit : sign (view c.loop-k.listener) c.bit-bit.result ≡ Bit =
          let i = w.in-Bit.is in let j = c.step.ensures.sign in sym j ∙ i in
          let few = c.loop-k.invariant.0.few in
          let room : 8 * c.loop-k.packer.octets + c.loop-k.packer.fill < 8 * length c.loop-k.work + 7 = omega (arith, c.requires.room, c.loop-k.auto.work, w.if-k-from-2.false) in
          let packed : bits_held c.match-step.packer c.match-step.work ≡ packs (sign (view c.loop-k.listener) c.bit-bit.result) (bits_held c.loop-k.packer c.loop-k.work) c.bit-bit.result =
          rw (w.packer-is, w.work-is, bit) (w.push.ensures.bits room) in
          let more : 8 * c.match-step.packer.octets + c.match-step.packer.fill ≤ 8 * c.loop-k.packer.octets + c.loop-k.packer.fill + 1 = rw w.packer-is (let n = w.push.ensures.count room in omega arith) in
          let s = further c.args.burst.now c.args.count c.args.first c.loop-k.from c.loop-k.k (view c.loop-k.listener) c.loop-k.packer c.loop-k.work c.bit-bit.result
          c.loop-k-test.true c.bit-bit.ensures.bit c.loop-k.invariant.0 (view c.match-step.listener) c.match-step.packer c.match-step.work f w.if-k-from-2.false (ap view (w.listener-is ∙ c.step.ensures.next) ∙ view-next c.loop-k.listener c.bit-bit.result c.loop-k.invariant.0.sound) packed more in (
            subst (λ x. Scans c.args.burst.now c.args.count c.args.first x (c.loop-k.k + 1) (view c.match-step.listener) c.match-step.packer c.match-step.work) (sym w.from-is) s,
            subst (All (λ o. o < 256)) (sym w.work-is) (w.push.ensures.octets c.loop-k.invariant.1),
            c.bit-bit.ensures.last,
          )
      | in_default+else-k-from-2+in_default-sign w ↦
          let f : sign (view c.loop-k.listener) c.bit-bit.result ≡ Flag → ⊥ = λ e. w.in_default.not-Flag (c.step.ensures.sign ∙ e) in
          let no-bit : sign (view c.loop-k.listener) c.bit-bit.result ≡ Bit → ⊥ = λ e. w.in_default-sign.not-Bit (c.step.ensures.sign ∙ e) in
          let packed : bits_held c.match-step.packer c.match-step.work ≡ packs (sign (view c.loop-k.listener) c.bit-bit.result) (bits_held c.loop-k.packer c.loop-k.work) c.bit-bit.result =
          rw (w.packer-is, w.work-is) (not_a_bit _ _ c.bit-bit.result f no-bit) in
          let more : 8 * c.match-step.packer.octets + c.match-step.packer.fill ≤ 8 * c.loop-k.packer.octets + c.loop-k.packer.fill + 1 = rw w.packer-is (omega arith) in
          let s = further c.args.burst.now c.args.count c.args.first c.loop-k.from c.loop-k.k (view c.loop-k.listener) c.loop-k.packer c.loop-k.work c.bit-bit.result
          c.loop-k-test.true c.bit-bit.ensures.bit c.loop-k.invariant.0 (view c.match-step.listener) c.match-step.packer c.match-step.work f w.if-k-from-2.false (ap view (w.listener-is ∙ c.step.ensures.next) ∙ view-next c.loop-k.listener c.bit-bit.result c.loop-k.invariant.0.sound) packed more in (
            subst (λ x. Scans c.args.burst.now c.args.count c.args.first x (c.loop-k.k + 1) (view c.match-step.listener) c.match-step.packer c.match-step.work) (sym w.from-is) s,
            subst (All (λ o. o < 256)) (sym w.work-is) c.loop-k.invariant.1,
            c.bit-bit.ensures.last,
          )
    ]

pub returns-then-from-count : goal.returns-then-from-count
returns-then-from-count c =
    ends c.args.burst.now c.args.count c.args.first c.loop-k.from c.loop-k.k (view c.loop-k.listener) c.loop-k.packer c.loop-k.work c.loop-k-test.false c.loop-k.invariant.0 _ c.if-from-count.true (ap (λ f. Err f) c.new-then-from-count.ensures)

pub returns : goal.returns
returns c =
    ends-empty c.args.burst.now c.args.count c.args.first c.loop-k.from c.loop-k.k (view c.loop-k.listener) c.loop-k.packer c.loop-k.work c.loop-k-test.false c.loop-k.invariant.0 _ c.if-from-count.false refl
