-- The live leases of a table, as it keeps them.
use Rattle.std.specs.Prelude.{if◌then◌else◌, nat_lt, ℕ, Bool, List, Option, Some, None}
use Rattle.std.specs.List.{list_any}
use Rattle.farm_base.specs.declared.lease.Lease.{Lease}
use Rattle.protocol.specs.Names.{FolderName, Ticket, Want, only_slot}
use Rattle.protocol.specs.Ledger.{has_slot}
use Rattle.leaseindex.specs.Counts.{AreCounted}
use Rattle.leaseindex.specs.Index.{AreIndexed}
use Rattle.leaseindex.specs.Instances.{AreTaken}
use Rattle.holdings.specs.Leases.{AreLeases}
use Rattle.leaseindex.specs.declared.lease_counts.LeaseCounts.{LeaseCounts}

-- live leases, as contracts see them
pub record Live : Type 0 where
  -- the leases, the oldest first
  pub leases : List Lease
  -- how many leases it can hold, those that it has among them
  pub lease_room : ℕ
  -- how many more folders its index can hold
  pub index_room : ℕ
  -- of how many more folders it can note instances
  pub instance_room : ℕ
  -- how many more leases it can count by ask and node
  pub count_room : ℕ

-- leases that may be live together, with an index of their folders, their instances and counts of them by ask and node
pub record AreLive (at : FolderName → Option Ticket) (taken : FolderName → ℕ → Bool) (counts : LeaseCounts)
    (leases : List Lease) : Type 0 where
  pub sound : AreLeases leases
  pub indexed : AreIndexed at leases
  pub taken_is : AreTaken taken leases
  pub counted : AreCounted counts leases

-- the one with the lower ticket, of those that are there
abbrev pub older : Option Lease → Option Lease → Option Lease
older None o = o
older (Some g) None = Some g
older (Some g) (Some h) = if nat_lt h.ticket.0 g.ticket.0 then Some h else Some g

-- the lease has the one slot of a folder that is wanted
abbrev pub holds_some : List Want → Lease → Bool
holds_some wants g = list_any (λ w. has_slot g.slots (only_slot w.folder)) wants
