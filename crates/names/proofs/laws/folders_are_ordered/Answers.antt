use Rattle.names.proofs.CompareLaws.{folder_cmp-tie, folder_total}
use Rattle.names.proofs.laws.folders_are_ordered.Goals as goal

pub returns-clause-ties : goal.returns-clause-ties
returns-clause-ties c = folder_cmp-tie

pub returns-clause-total : goal.returns-clause-total
returns-clause-total c = folder_total
