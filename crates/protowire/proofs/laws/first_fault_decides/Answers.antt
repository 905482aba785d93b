use Rattle.protowire.proofs.FieldLaws.{fields_fault}
use Rattle.protowire.proofs.laws.first_fault_decides.Goals as goal

pub returns : goal.returns
returns c = fields_fault
