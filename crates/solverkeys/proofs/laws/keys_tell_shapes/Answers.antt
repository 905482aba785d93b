use Rattle.solverkeys.proofs.ShapeLaws.{collision}
use Rattle.solverkeys.proofs.laws.keys_tell_shapes.Goals as goal

pub returns-clause-different : goal.returns-clause-different
returns-clause-different c = collision
