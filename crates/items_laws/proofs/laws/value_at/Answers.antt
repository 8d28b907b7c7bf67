use Rattle.items_laws.proofs.Inner.{value-canonical}
use Rattle.items_laws.proofs.Finding.{finds_value}
use Rattle.items_laws.proofs.laws.value_at.Goals as goal

pub returns : goal.returns
returns c = record {
  back = c.lookup.ensures.back;
  is = c.lookup.ensures.is;
  finds = finds_value c.args.octets.now c.args.key c.args.place.now c.lookup.result c.lookup.ensures.is;
  inner = value-canonical;
}
