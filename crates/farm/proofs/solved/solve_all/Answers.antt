use denote.Param.Send.{sendable}
use Rattle.std.proofs.Crossing.{crosses}
use Rattle.farm.proofs.Crosses.{common}
use Rattle.farm.proofs.solved.solve_all.Goals as goal

pub run_threads-ends-requires-sync-S : goal.run_threads-ends-requires-sync-S
run_threads-ends-requires-sync-S g c κs within = search (sendable, crosses, common) depth 60 fits 1000000
