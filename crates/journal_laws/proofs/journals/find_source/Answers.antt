use Rattle.journal_laws.proofs.Placing.{source_law, found_source}
use Rattle.journal_laws.proofs.journals.find_source.Goals as goal

pub returns-clause-is : goal.returns-clause-is
returns-clause-is g c = found_source _ _ _ c.source.ensures

pub returns-clause-one : goal.returns-clause-one
returns-clause-one g c = source_law
