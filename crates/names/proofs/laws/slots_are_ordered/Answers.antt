use Rattle.names.proofs.CompareLaws.{slot_cmp-tie, slot_total}
use Rattle.names.proofs.laws.slots_are_ordered.Goals as goal

pub returns-clause-total : goal.returns-clause-total
returns-clause-total c = slot_total

pub returns-clause-ties : goal.returns-clause-ties
returns-clause-ties c = slot_cmp-tie
