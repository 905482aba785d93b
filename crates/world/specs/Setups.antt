-- How many nodes a farm may have.
use Rattle.std.specs.Prelude.{◌≤◌}
use Rattle.names.specs.declared.limits.TheConstants.{NODES}
use Rattle.schedule.specs.declared.setup.Setup.{Setup}

-- from 1 on
pub record IsSetup (s : Setup) : Type 0 where
  pub least : 1 ≤ s.nodes
  pub greatest : s.nodes ≤ NODES
