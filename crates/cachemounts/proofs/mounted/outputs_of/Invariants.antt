use Rattle.std.proofs.Common.{take}
use Rattle.cachemounts.specs.CacheFolders.{TakesOutputs}
use Rattle.cachemounts.proofs.mounted.outputs_of.Given as goal

-- the edges so far take their outputs
abbrev pub invariant-loop-edge : goal.invariant-loop-edge
invariant-loop-edge l = TakesOutputs l.keys (take l.edge-index l.edges) l.outputs.items
