-- The leases that a table holds.
use Rattle.std.specs.Prelude.{List}
use Rattle.farm_base.specs.declared.lease.Lease.{Lease}
use Rattle.protocol.specs.Names.{Slot}

-- a lease table, as contracts see it
pub record Table : Type 0 where
  -- the leases, the oldest first
  pub live : List Lease
  -- the PRIVATE slots that are never granted again
  pub retired : List Slot
