use Rattle.merging.proofs.PathLaws.{path_listed, conflict_listed, conflict_only}
use Rattle.merging.proofs.RowLaws.{all_rise}
use Rattle.merging.proofs.laws.paths_are_those_of_the_three.Goals as goal

pub returns : goal.returns
returns c = record { rise = all_rise; each = path_listed; conflicts = conflict_listed; only = conflict_only }
