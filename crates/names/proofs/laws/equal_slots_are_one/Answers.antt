use Rattle.names.proofs.CompareLaws.{slot_eq-itself, slot_exact}
use Rattle.names.proofs.laws.equal_slots_are_one.Goals as goal

pub returns-clause-one : goal.returns-clause-one
returns-clause-one c = slot_exact

pub returns-clause-itself : goal.returns-clause-itself
returns-clause-itself c = slot_eq-itself
