-- What has a spelling: what a home and a slot have to meet to be written, and what the program's types guarantee besides.
use Rattle.std.specs.Prelude.{◌<◌, ◌≤◌, ◌^◌, length, Option, Some, None}
use Rattle.names.specs.declared.limits.TheConstants.{NODES}
use Rattle.names.specs.declared.number.NodeId.{NodeId}
use Rattle.names.specs.Names.{IsSlot}
use Rattle.names.specs.Slots.{SlotParts}

-- a node is 1 to 1,024
abbrev pub IsNode : NodeId → Type 0
IsNode n = (1 ≤ n.0) × (n.0 ≤ NODES)

abbrev pub IsHome : Option NodeId → Type 0
IsHome None = Unit {0}
IsHome (Some n) = IsNode n

pub record IsTypedSlot (s : SlotParts) : Type 0 where
  pub slot : IsSlot s
  pub id : length s.folder.id < 2 ^ 64
