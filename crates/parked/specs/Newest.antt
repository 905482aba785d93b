-- Which asks may be among those that were noted, by the newest of each node.
use Rattle.std.specs.Prelude.{◌≡◌, ◌==◌, ◌&&◌, ◌||◌, not, nat_lt, ℕ, Bool, true, false, All, List, Option, Some, None}
use Rattle.indexmap.specs.IndexMap.{IndexMap, get, spare}
use Rattle.protocol.specs.Machine.{Parked}
use Rattle.protocol.specs.Names.{NodeId, Life, Ask}
use Rattle.holdings.specs.Lives.{node_eq}
use Rattle.parked.specs.declared.newest_asks.NewestAsk.{NewestAsk}
use Rattle.parked.specs.declared.newest_asks.NewestAsks.{NewestAsks}

-- the newest ask of a node that was noted
abbrev pub newest_of : {S : Type 0} → IndexMap NodeId NewestAsk S → NodeId → Option NewestAsk
newest_of m n = get node_eq m n

-- the ask is of a newer life, or of the same life with a greater number
abbrev pub is_newer : NewestAsk → Life → Ask → Bool
is_newer x l a = nat_lt x.life.0 l.0 || ((x.life.0 == l.0) && nat_lt x.ask.0 a.0)

-- the ask isn't newer than this one
abbrev pub is_known : Option NewestAsk → Life → Ask → Bool
is_known None l a = false
is_known (Some x) l a = not (is_newer x l a)

-- the ask isn't newer than each of its node
abbrev pub knows : NewestAsks → NodeId → Life → Ask → Bool
knows x n l a = is_known (newest_of x.by_node n) l a

-- how many more nodes fit in without memory
abbrev pub node_room : NewestAsks → ℕ
node_room x = spare x.by_node

-- none of the asks is newer than each of its node
abbrev pub AreKnown : NewestAsks → List Parked → Type 0
AreKnown x asks = All (λ p. knows x p.node p.life p.ask ≡ true) asks
