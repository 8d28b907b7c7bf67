use Rattle.std.proofs.Common.{sym, ◌∙◌, rules}
use Rattle.std.proofs.lemmas.Iterator.{YieldsList-from_slice}
use Rattle.std.proofs.lemmas.Iterator.Consumers.{YieldsList-from_copied, max_from_yields_List}
use Rattle.std.proofs.lemmas.Iterator.Adapters.{option_map_id}
use Rattle.std.proofs.lemmas.List.{take_all}
use Rattle.journal_laws.proofs.Piling.{highest}
use Rattle.journal_laws.proofs.floors.pile_epoch.Goals as goal

pub returns : goal.returns
returns c =
    let all = YieldsList-from_slice c.args.epochs.now (search (rules, take_all)) in
    highest _ _ (sym (option_map_id _) ∙ max_from_yields_List _ _ c.max.ensures.ran (YieldsList-from_copied all))
