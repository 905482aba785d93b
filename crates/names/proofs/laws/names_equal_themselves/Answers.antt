use Rattle.names.proofs.CompareLaws.{folder_eq-itself}
use Rattle.names.proofs.laws.names_equal_themselves.Goals as goal

pub returns : goal.returns
returns c = folder_eq-itself
