use Rattle.solverkeys.proofs.ShapeLaws.{one_shape}
use Rattle.solverkeys.proofs.laws.shape_is_determined.Goals as goal

pub returns : goal.returns
returns c = one_shape
