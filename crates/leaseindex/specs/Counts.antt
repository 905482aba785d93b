-- The live leases by ask and by node: how many leases an ask or a node has, and which ticket the oldest of them may
-- have.
use Rattle.std.specs.Prelude.{◌≡◌, ◌==◌, ◌&&◌, ℕ, ◌+◌, ◌^◌, ◌<◌, ◌≤◌, min, Bool, false, All, List, ◌++◌, length, filter, Option, Some, None}
use Rattle.indexmap.specs.IndexMap.{get, spare}
use Rattle.farm_base.specs.declared.lease.Lease.{Lease}
use Rattle.protocol.specs.Names.{NodeId, Ticket}
use Rattle.protocol.specs.Ledger.{is_at, is_of}
use Rattle.holdings.specs.Lives.{node_eq}
use Rattle.leaseindex.specs.declared.lease_counts.AskName.{AskName}
use Rattle.leaseindex.specs.declared.lease_counts.LeaseCount.{LeaseCount}
use Rattle.leaseindex.specs.declared.lease_counts.LeaseCounts.{LeaseCounts}

abbrev pub ask_eq : AskName → AskName → Bool
ask_eq a b = (a.node.0 == b.node.0) && ((a.life.0 == b.life.0) && (a.ask.0 == b.ask.0))

-- the ask of a lease
abbrev pub name_of : Lease → AskName
name_of g = record { node = g.node; life = g.life; ask = g.ask }

-- the lease has the ask
abbrev pub has_ask : AskName → Lease → Bool
has_ask k g = is_of k.node k.life k.ask g

-- what is counted of an ask
abbrev pub ask_count : LeaseCounts → AskName → Option LeaseCount
ask_count x k = get ask_eq x.by_ask k

-- what is counted of a node
abbrev pub node_count : LeaseCounts → NodeId → Option LeaseCount
node_count x n = get node_eq x.by_node n

-- how many more leases can be counted without memory
abbrev pub count_room : LeaseCounts → ℕ
count_room x = min (spare x.by_ask) (spare x.by_node)

-- how many leases it counts
abbrev pub times_in : Option LeaseCount → ℕ
times_in None = 0
times_in (Some e) = e.times

-- below which ticket it says that there is none
abbrev pub oldest_in : Option LeaseCount → ℕ
oldest_in None = 0
oldest_in (Some e) = e.oldest.0

-- the same, where there is an entry
abbrev pub oldest_of : Option LeaseCount → Option Ticket
oldest_of None = None
oldest_of (Some e) = Some e.oldest

-- an entry counts these leases at least, or its count has reached its greatest value; and none of them has a lower
-- ticket than its oldest
pub record Counts (o : Option LeaseCount) (leases : List Lease) : Type 0 where
  pub times : times_in o + 1 < 2 ^ 64 → length leases ≤ times_in o
  pub oldest : All (λ g. oldest_in o ≤ g.ticket.0) leases

-- of each ask and of each node the leases are counted that it has
pub record AreCounted (x : LeaseCounts) (leases : List Lease) : Type 0 where
  pub asks : (k : AskName) → Counts (ask_count x k) (filter (has_ask k) leases)
  pub nodes : (n : NodeId) → Counts (node_count x n) (filter (is_at n) leases)

-- these are the last of the leases, and none of those before them passes the test
pub record AreLast (test : Lease → Bool) (last leases : List Lease) : Type 0 where
  pub before : List Lease
  pub whole : leases ≡ before ++ last
  pub none : All (λ g. test g ≡ false) before
