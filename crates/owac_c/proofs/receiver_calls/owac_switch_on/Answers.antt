use Rattle.std.proofs.Common.{ap, ◌∙◌}
use Rattle.hosts.specs.declared.supply.Supply.{Supply}
use Rattle.hosts.specs.Images.{switched_on}
use Rattle.owac_c.specs.Supplies.{supply_as}
use Rattle.owac_c.proofs.Told.{switched}
use Rattle.owac_c.proofs.receiver_calls.owac_switch_on.Goals as goal

pub returns : goal.returns
returns c =
    switched c.args.supply.now c.args.writes c.into.result
    (c.into.ensures ∙ ap supply_as c.switch_on.ensures.supply ∙ ap (λ (p : Supply). supply_as (switched_on p c.args.writes)) c.from-kept.ensures)
