-- The jobs of a run (this project's own).
use Rattle.std.specs.Prelude.{List}
use Rattle.names.specs.declared.number.NodeId.{NodeId}
use Rattle.solverkeys.specs.Keyed.{KeyedParts}
use Rattle.solving.specs.declared.work.Work.{Work}

-- the jobs with their nodes, in their order
abbrev pub jobs_of : Work → List (NodeId × KeyedParts)
jobs_of work = work.jobs.items
