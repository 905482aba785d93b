use Rattle.std.proofs.Common.{◌≡◌, ◌++◌}
use Rattle.protocol.specs.Nodes.{fetches_of}
use Rattle.nodecore.specs.Shown.{place}
use Rattle.nodecore.proofs.FetchLemmas.{fetches_above}
use Rattle.nodecore.proofs.node_core.NodeCore.push_fetches.Given as goal

abbrev pub invariant-loop-number : goal.invariant-loop-number
invariant-loop-number l = l.sends.items ++ fetches_above (place l.self) l.digest l.number l.self.nodes ≡ l.initial.sends.items ++ fetches_of (place l.self) l.digest
