use Rattle.std.proofs.Common.{refl}
use Rattle.items_laws.proofs.Runnings.{head-exact, key-exact, unsigned-exact, negative-exact, integer-exact, bytes-exact, text-exact, map-exact}
use Rattle.items_laws.proofs.laws.fields_are_exact.Goals as goal

pub returns : goal.returns
returns c = record { zero = refl; heads = head-exact; keys = key-exact; unsigned = unsigned-exact; negative = negative-exact; integers = integer-exact; bytes = bytes-exact; text = text-exact; maps = map-exact }
