use Rattle.std.proofs.Common.{◌≡◌, sym, ap, ◌∙◌, arith}
use Rattle.items.specs.Stored.{keys_of}
use Rattle.items.specs.Held.{held}
use Rattle.std.specs.Prelude.{slice_index}
use Rattle.std.specs.Str.{bytes_eq}
use Rattle.std.proofs.lemmas.Slice.Eq.{slice_eq-Decides, bytes_eq-Decides}
use Rattle.std.proofs.lemmas.Bool.Decides.{same_from_decides, Decides-eqb}
use Rattle.items.specs.Keys.{span, has}
use Rattle.items.proofs.Chains.{has_here, has_not}
use Rattle.items.proofs.types.Keys.seen.Goals as goal

pub returns-then-eq : goal.returns-then-eq
unfolding held
returns-then-eq c = sym (has_here c.args.self.now.octets.now c.args.self.now.starts c.args.self.now.ends c.args.key.now c.loop-i.i c.args.self.now.count c.loop-i-test.true (sym (same_from_decides c.eq.result (bytes_eq (span c.args.self.now.octets.now (slice_index c.args.self.now.starts c.loop-i.i) (slice_index c.args.self.now.ends c.loop-i.i)) c.args.key.now) (slice_eq-Decides Decides-eqb _ _ _ c.eq.ensures) (bytes_eq-Decides (span c.args.self.now.octets.now (slice_index c.args.self.now.starts c.loop-i.i) (slice_index c.args.self.now.ends c.loop-i.i)) c.args.key.now)) ∙ c.if-eq.true))

pub loop-i-preserved : goal.loop-i-preserved
loop-i-preserved c = has_not c.args.self.now.octets.now c.args.self.now.starts c.args.self.now.ends c.args.key.now c.loop-i.i c.loop-i.invariant (sym (same_from_decides c.eq.result (bytes_eq (span c.args.self.now.octets.now (slice_index c.args.self.now.starts c.loop-i.i) (slice_index c.args.self.now.ends c.loop-i.i)) c.args.key.now) (slice_eq-Decides Decides-eqb _ _ _ c.eq.ensures) (bytes_eq-Decides (span c.args.self.now.octets.now (slice_index c.args.self.now.starts c.loop-i.i) (slice_index c.args.self.now.ends c.loop-i.i)) c.args.key.now)) ∙ c.if-eq.false)

pub returns : goal.returns
unfolding held
returns c =
    let e : c.loop-i.i ≡ c.args.self.now.count = omega arith in
    sym c.loop-i.invariant ∙ ap (λ n. has (keys_of c.args.self.now.octets.now c.args.self.now.starts c.args.self.now.ends n) c.args.key.now) e
