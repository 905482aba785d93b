use Rattle.folders.proofs.Faults.{folder_fault}
use Rattle.folders.proofs.laws.first_fault_decides.Goals as goal

pub returns : goal.returns
returns c = folder_fault
