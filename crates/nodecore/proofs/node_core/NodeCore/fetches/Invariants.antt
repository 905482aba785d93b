use Rattle.std.proofs.Common.{◌≡◌, ◌++◌, drop}
use Rattle.protocol.specs.Farm.{farm_limits}
use Rattle.protocol.specs.Nodes.{fetches}
use Rattle.nodecore.specs.Shown.{shown, place}
use Rattle.nodecore.proofs.node_core.NodeCore.fetches.Given as goal

abbrev pub invariant-loop-slot : goal.invariant-loop-slot
invariant-loop-slot l = l.sends.items ++ fetches farm_limits (place l.self) (shown l.self) (drop l.slot-index l.slots) ≡ fetches farm_limits (place l.self) (shown l.self) l.slots
