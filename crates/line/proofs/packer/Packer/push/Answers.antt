use Rattle.std.proofs.Common.{◌≡◌, ◌*◌, ◌%◌, ◌^◌, ◌<◌, refl, arith}
use lib.Bits.{bit_or}
use Rattle.std.proofs.ByRecursion.{All-set}
use Rattle.line.proofs.Pack.{part-more, part_lt, held-part, held_whole, behind-set, part-fits}
use Rattle.line.proofs.packer.Packer.push.Goals as goal

pub invariant_of-self : goal.invariant_of-self
invariant_of-self c =
    let ok = c.args.self.now.ok in
    let is = part-more c.args.self.now.fill c.args.self.now.part c.from.result c.args.bit ok.0 ok.1 c.from.ensures in
    record { ok = (omega arith, part_lt _ _ _ _ ok.1 is) }

pub returns-then-self-lt7 : goal.returns-then-self-lt7
returns-then-self-lt7 c =
    let ok = c.args.self.now.ok in
    let is = part-more c.args.self.now.fill c.args.self.now.part c.from.result c.args.bit ok.0 ok.1 c.from.ensures in
    record {
      bits = λ h. held-part _ _ _ _ c.args.bit _ ok.1 is;
      count = λ h. omega arith;
      fill = omega arith;
      behind = refl;
      octets = λ a. a;
    }

pub returns-then-self-out : goal.returns-then-self-out
returns-then-self-out c =
    let ok = c.args.self.now.ok in
    let seven : c.args.self.now.fill ≡ 7 = omega (arith, ok.0) in
    let is = part-more c.args.self.now.fill c.args.self.now.part c.from.result c.args.bit ok.0 ok.1 c.from.ensures in
    record {
      bits = λ h. held_whole _ _ _ _ c.args.bit _ (omega arith) seven ok.1 is;
      count = λ h. omega arith;
      fill = omega arith;
      behind = behind-set c.args.out.now c.args.self.now.octets (bit_or c.args.self.now.part (c.from.result * 2 ^ c.args.self.now.fill % 2 ^ 8));
      octets = λ a. All-set (λ o. o < 256) c.args.out.now c.args.self.now.octets (bit_or c.args.self.now.part (c.from.result * 2 ^ c.args.self.now.fill % 2 ^ 8)) (part-fits _ _ _ c.args.bit ok.0 ok.1 is) a;
    }

pub returns-else-self-out : goal.returns-else-self-out
returns-else-self-out c =
    record {
      bits = λ h. absurd (omega arith);
      count = λ h. absurd (omega arith);
      fill = let k = c.args.self.now.ok.0 in omega arith;
      behind = refl;
      octets = λ a. a;
    }
