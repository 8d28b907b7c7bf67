use Rattle.std.proofs.Common.{◌≡◌, ◌+◌, ◌*◌, ◌<◌, get_or, ap, add-one, arith}
use Rattle.items.proofs.Sizes.{grow, top}
use Rattle.items.proofs.reader.heads.big_endian.Goals as goal

pub overflow_mul-value : goal.overflow_mul-value
overflow_mul-value c = omega (arith, top c.loop-octet.value 0 c.loop-octet.octet-index c.loop-octet.invariant.1 (omega arith) (omega arith))

pub overflow_add-value : goal.overflow_add-value
overflow_add-value c =
    let b : get_or c.args.octets.now c.loop-octet.octet-index 0 < 256 = omega arith in
    omega (arith, top c.loop-octet.value _ c.loop-octet.octet-index c.loop-octet.invariant.1 b (omega arith))

pub loop-octet-preserved : goal.loop-octet-preserved
loop-octet-preserved c =
    let i = c.loop-octet.octet-index in
    let z : 0 + i ≡ i = omega arith in
    let b : get_or c.args.octets.now i 0 < 256 = omega arith in
    (rw (add-one, z) (ap (λ v. v * 256 + get_or c.args.octets.now i 0) c.loop-octet.invariant.0), grow c.loop-octet.value _ i c.loop-octet.invariant.1 b)
