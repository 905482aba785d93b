-- The one spelling of each entry of a record's lists.
use Rattle.std.specs.Prelude.{ℕ, Bool, List, ◌++◌, length}
use Rattle.std.specs.List.{flat_map}
use Rattle.farm_base.specs.declared.lease.Lease.{Lease}
use Rattle.farm_base.specs.declared.lease.NodeLife.{NodeLife}
use Rattle.farm_base.specs.declared.message.LineVersion.{LineVersion}
use Rattle.names.specs.declared.number.NodeId.{NodeId}
use Rattle.names.specs.declared.number.Ticket.{Ticket}
use Rattle.names.specs.Slots.{SlotParts}
use Rattle.recordparts.specs.Spelling.{number32, number64, flag_bytes, slot_bytes}
use Rattle.versions.specs.declared.lines.SlotLine.{SlotLine}

-- the count, and each
abbrev pub counted : {X : Type 0} → (X → List ℕ) → List X → List ℕ
counted spell xs = number64 (length xs) ++ flat_map spell xs

abbrev pub ticket_bytes : Ticket → List ℕ
ticket_bytes t = number64 t.0

abbrev pub node_bytes : NodeId → List ℕ
node_bytes n = number32 n.0

unfoldable pub node_life_bytes : NodeLife → List ℕ
node_life_bytes seen = number32 seen.node.0 ++ number64 seen.life.0

-- the slot, and whether it may be written
unfoldable pub leased_bytes : SlotParts × Bool → List ℕ
leased_bytes x = slot_bytes x.0 ++ flag_bytes x.1

-- ticket, node, life and ask
unfoldable pub holder_bytes : Lease → List ℕ
holder_bytes l = number64 l.ticket.0 ++ (number32 l.node.0 ++ (number64 l.life.0 ++ number64 l.ask.0))

-- ticket, node, life, ask, shared, tenure, and the slots
unfoldable pub lease_bytes : Lease → List ℕ
lease_bytes l = holder_bytes l ++ (flag_bytes l.shared ++ (flag_bytes l.tenure ++ counted leased_bytes l.slots))

unfoldable pub version_bytes : LineVersion → List ℕ
version_bytes v = number64 v.ticket.0 ++ v.digest.0

-- the slot, and its versions
unfoldable pub line_bytes : SlotLine → List ℕ
line_bytes l = slot_bytes l.slot ++ counted version_bytes l.line
