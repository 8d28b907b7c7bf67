use Rattle.std.proofs.Common.{◌+◌, ap, ◌∙◌, arith}
use Rattle.std.proofs.lemmas.Bool.Decides.{nat_tests}
use Rattle.items.specs.Heads.{head_at, head_from, long_head}
use Rattle.items.proofs.Sizes.{slice_reads}
use Rattle.items.proofs.reader.Reader.head.Goals as goal

pub returns-clause-is : goal.returns-clause-is
unfolding head_at head_from long_head
returns-clause-is c =
    let os = c.args.self.now.octets.now in
    let p = c.args.self.now.place in
    let n = c.behind-count.result.0 in
    let a = c.big_endian-argument.ensures ∙ slice_reads os (p + 1) (p + 1 + n) n (omega arith) (omega arith) in
    let w = ap (λ x. x.0) c.behind-count.ensures.is in
    let l = ap (λ x. x.1) c.behind-count.ensures.is in
    rw (c.of-major.ensures, a, l, w) (grind (arith, nat_tests, w))
