use Rattle.solverkeys.proofs.KeyLemmas.{shape_indexes}
use Rattle.solverkeys.proofs.laws.shapes_have_indexes.Goals as goal

pub returns : goal.returns
returns c = shape_indexes
