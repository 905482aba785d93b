-- The greatest lives seen of nodes, and the retired nodes.
use Rattle.std.specs.Prelude.{ℕ, ◌==◌, ◌≤◌, if◌then◌else◌, Bool, List, [], ◌∷◌, map, All}
use Rattle.std.specs.List.{list_any}
use Rattle.std.specs.List.Sorted.{IsStrictlyIncreasing}
use Rattle.farm_base.specs.declared.lease.NodeLife.{NodeLife}
use Rattle.protocol.specs.Names.{NodeId}

-- lives of nodes, by rising node
pub record AreLives (lives : List NodeLife) : Type 0 where
  pub rise : IsStrictlyIncreasing (map (λ x. x.node.0) lives)
  -- lives are counted from 1
  pub counted : All (λ x. 1 ≤ x.life.0) lives

-- lives and their room, as contracts see them
pub record RoomyLives : Type 0 where
  -- by rising node
  pub seen : List NodeLife
  -- of how many nodes it can hold lives, those that it has among them
  pub room : ℕ

-- retired nodes and their room, likewise
pub record RoomyNodes : Type 0 where
  -- rising
  pub retired : List NodeId
  -- how many it can hold, those that it has among them
  pub room : ℕ

-- the greatest life seen of a node
abbrev pub life_at : List NodeLife → ℕ → ℕ
life_at [] n = 0
life_at (l ∷ ls) n = if l.node.0 == n then l.life.0 else life_at ls n

-- the node is among these
abbrev pub is_among : List NodeId → ℕ → Bool
is_among nodes n = list_any (λ node. node.0 == n) nodes

-- one node
abbrev pub node_eq : NodeId → NodeId → Bool
node_eq m n = m.0 == n.0
