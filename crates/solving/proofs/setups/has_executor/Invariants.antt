use Rattle.std.proofs.Common.{◌≡◌, ◌==◌, drop}
use Rattle.std.specs.List.{list_any}
use Rattle.solving.proofs.setups.has_executor.Given as goal

abbrev pub invariant-loop-each : goal.invariant-loop-each
invariant-loop-each g l = list_any (λ e. e.0.0 == l.node.0) (drop l.each-index l.executors) ≡ list_any (λ e. e.0.0 == l.node.0) l.executors
