use Rattle.std.proofs.Common.{◌≡◌, drop}
use Rattle.std.specs.List.{list_all}
use Rattle.solving.specs.Setups.{is_there}
use Rattle.solving.proofs.setups.are_there.Given as goal

abbrev pub invariant-loop-each : goal.invariant-loop-each
invariant-loop-each g l = list_all (λ e. is_there l.setup e.0) (drop l.each-index l.executors) ≡ list_all (λ e. is_there l.setup e.0) l.executors
