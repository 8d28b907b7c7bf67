use Rattle.std.proofs.Common.{◌≡◌, false, ◌&&◌, sym, refl, ap, ◌∙◌}
use Rattle.std.proofs.lemmas.Bool.{and_parts}
use Rattle.std.specs.Option.{ok_or}
use Rattle.items.specs.declared.types.Fault.TheVariants.{Malformed}
use Rattle.items.specs.Keys.{span, has}
use Rattle.items.specs.Stored.{keys_of}
use Rattle.items.specs.Held.{held}
use Rattle.items.proofs.Chains.{chain-new, judged-new, held_new, kept_new}
use Rattle.items.proofs.types.Keys.add.Goals as goal
use Rattle.items.proofs.types.Keys.add.Goals.{else-not-sorted-via-then-not-sorted+else-seen, else-not-sorted-via-else-not-sorted}

pub invariant_of-self : goal.invariant_of-self
unfolding held
invariant_of-self c =
    let k = c.args.self.now in
    record { kept = kept_new k.octets.now k.starts k.ends k.count k.sorted k.kept c.requires.room c.args.start c.args.end c.requires.within.0 c.requires.within.1 _ (ap (λ b. k.sorted && b) c.ascends-up.ensures) }

pub returns : goal.returns
unfolding held
returns c =
    let k = c.args.self.now in
    let os = k.octets.now in
    let key = span os c.args.start c.args.end in
    let ks = keys_of os k.starts k.ends k.count in
    let up = c.ascends-up.ensures in
    let not_there : has ks key ≡ false = elim c.else-not-sorted.branch [
      | else-not-sorted-via-then-not-sorted+else-seen w ↦ sym w.seen.ensures ∙ w.if-seen.false
      | else-not-sorted-via-else-not-sorted w ↦
          let both = and_parts k.sorted c.ascends-up.result w.if-not-sorted.false in
          chain-new ks key (sym k.kept.sorted_is ∙ both.0) (sym up ∙ both.1)
    ] in
    record {
      is = ap (λ o. ok_or o Malformed) (judged-new ks key c.ascends-up.result up not_there);
      added = (refl, held_new os k.starts k.ends k.count k.sorted k.kept c.requires.room c.args.start c.args.end c.requires.within.0 c.requires.within.1, refl);
    }
