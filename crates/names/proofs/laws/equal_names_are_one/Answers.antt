use Rattle.names.proofs.NameLaws.{folder_exact}
use Rattle.names.proofs.laws.equal_names_are_one.Goals as goal

pub returns : goal.returns
returns c = folder_exact
