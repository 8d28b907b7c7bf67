use Rattle.std.proofs.Common.{◌-◌, refl, sym, ap, ◌∙◌, arith}
use Rattle.std.specs.Prelude.{slice_index}
use Rattle.std.proofs.lemmas.Cmp.{same_from_slice_cmp_tested}
use Rattle.std.proofs.lemmas.Bool.Decides.{nat_tests}
use Rattle.std.specs.Ordering.{is_lt, nat_cmp}
use Rattle.items.specs.Stored.{keys_of}
use Rattle.items.specs.Held.{held}
use Rattle.items.specs.Keys.{span, before, above}
use Rattle.items.proofs.Chains.{above-last}
use Rattle.items.proofs.types.Keys.ascends.Goals as goal

pub returns-then-self-eq0 : goal.returns-then-self-eq0
unfolding held
returns-then-self-eq0 c = ap (λ n. above (keys_of c.args.self.now.octets.now c.args.self.now.starts c.args.self.now.ends n) c.args.key.now) (sym c.if-self-eq0.true)

pub returns : goal.returns
unfolding held
returns c = same_from_slice_cmp_tested nat_cmp is_lt before refl (λ _ _. refl) (λ _ _. refl) (λ x y xs ys o h. grind (arith, nat_tests)) (span c.args.self.now.octets.now (slice_index c.args.self.now.starts (c.args.self.now.count - 1)) (slice_index c.args.self.now.ends (c.args.self.now.count - 1))) c.args.key.now c.lt.result c.lt.ensures ∙ sym (above-last c.args.self.now.octets.now c.args.self.now.starts c.args.self.now.ends c.args.self.now.count c.args.key.now c.if-self-eq0.false)
