use Rattle.std.proofs.Common.{◌≡◌, ◌^◌, ◌<◌}
use Rattle.items.specs.Heads.{big_endian}
use Rattle.items.proofs.reader.heads.big_endian.Given as goal

abbrev pub invariant-loop-octet : goal.invariant-loop-octet
invariant-loop-octet l = (l.value ≡ big_endian l.octets 0 l.octet-index) × (l.value < 256 ^ l.octet-index)
