-- What has a spelling: what an entry has to meet to be written, and what the program's types guarantee besides.
use Rattle.std.specs.Prelude.{◌<◌, ◌≤◌, ◌^◌, Bool, List, length, map}
use Rattle.std.specs.List.{AllByRecursion}
use Rattle.std.specs.List.Sorted.{IsStrictlyIncreasing, IsStrictlySortedBy}
use Rattle.farm_base.specs.declared.lease.Lease.{Lease}
use Rattle.farm_base.specs.declared.lease.NodeLife.{NodeLife}
use Rattle.farm_base.specs.declared.message.LineVersion.{LineVersion}
use Rattle.names.specs.declared.number.NodeId.{NodeId}
use Rattle.names.specs.declared.number.Ticket.{Ticket}
use Rattle.names.specs.Digests.{IsDigest}
use Rattle.names.specs.Slots.{SlotParts, slot_cmp}
use Rattle.recordparts.specs.Fits.{IsNode, IsTypedSlot}
use Rattle.versions.specs.declared.lines.SlotLine.{SlotLine}

-- ---- what has to be met

abbrev pub IsTicket : Ticket → Type 0
IsTicket t = 1 ≤ t.0

pub record IsNodeLife (x : NodeLife) : Type 0 where
  pub node : IsNode x.node
  pub life : 1 ≤ x.life.0

pub record IsLease (l : Lease) : Type 0 where
  pub ticket : 1 ≤ l.ticket.0
  pub node : IsNode l.node
  pub life : 1 ≤ l.life.0
  pub ask : 1 ≤ l.ask.0
  pub few : length l.slots ≤ 16
  pub rise : IsStrictlySortedBy slot_cmp (map (λ x. x.0) l.slots)

-- a version's ticket
abbrev pub IsVersion : LineVersion → Type 0
IsVersion v = 1 ≤ v.ticket.0

pub record IsSlotLine (l : SlotLine) : Type 0 where
  pub some : 1 ≤ length l.line
  pub rise : IsStrictlyIncreasing (map (λ v. v.ticket.0) l.line)
  pub versions : AllByRecursion IsVersion l.line

-- ---- what the types guarantee

abbrev pub IsTypedTicket : Ticket → Type 0
IsTypedTicket t = t.0 < 2 ^ 64

abbrev pub IsTypedNode : NodeId → Type 0
IsTypedNode n = Unit {0}

abbrev pub IsTypedLife : NodeLife → Type 0
IsTypedLife x = x.life.0 < 2 ^ 64

abbrev pub IsTypedLeased : SlotParts × Bool → Type 0
IsTypedLeased x = IsTypedSlot x.0

pub record IsTypedLease (l : Lease) : Type 0 where
  pub ticket : l.ticket.0 < 2 ^ 64
  pub life : l.life.0 < 2 ^ 64
  pub ask : l.ask.0 < 2 ^ 64
  pub slots : AllByRecursion IsTypedLeased l.slots

pub record IsTypedVersion (v : LineVersion) : Type 0 where
  pub ticket : v.ticket.0 < 2 ^ 64
  pub digest : IsDigest v.digest

pub record IsTypedLine (l : SlotLine) : Type 0 where
  pub slot : IsTypedSlot l.slot
  pub few : length l.line < 2 ^ 64
  pub versions : AllByRecursion IsTypedVersion l.line

-- a list that fits in memory, and P of each of its items
abbrev pub IsTypedList : {X : Type 0} → (X → Type 0) → List X → Type 0
IsTypedList P xs = (length xs < 2 ^ 64) × AllByRecursion P xs
