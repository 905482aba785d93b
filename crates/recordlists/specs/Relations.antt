-- What holds between leases, slots and lines.
use Rattle.std.specs.Prelude.{ℕ, nat_le, nat_lt, ◌==◌, Bool, true, false, not, ◌&&◌, ◌||◌, if◌then◌else◌, List, [], ◌∷◌, Option, Some, None}
use Rattle.std.specs.List.{list_all, list_any}
use Rattle.farm_base.specs.declared.lease.Lease.{Lease}
use Rattle.farm_base.specs.declared.message.LineVersion.{LineVersion}
use Rattle.names.specs.declared.number.NodeId.{NodeId}
use Rattle.names.specs.Folders.{folder_eq}
use Rattle.names.specs.Slots.{SlotParts}
use Rattle.protocol.specs.Names.{is_private, is_shared}
use Rattle.protocol.specs.Ledger.{has_slot}
use Rattle.farm_base.specs.declared.lease.NodeLife.{NodeLife}
use Rattle.versions.specs.declared.lines.SlotLine.{SlotLine}

-- the test holds of no two, in their order
abbrev pub no_two : {X : Type 0} → (X → X → Bool) → List X → Bool
no_two test [] = true
no_two test (x ∷ xs) = not (list_any (test x) xs) && no_two test xs

-- each ticket is at most this one
abbrev pub tickets_up_to : ℕ → List Lease → Bool
tickets_up_to last leases = list_all (λ l. nat_le l.ticket.0 last) leases

abbrev pub versions_up_to : ℕ → List LineVersion → Bool
versions_up_to last versions = list_all (λ v. nat_le v.ticket.0 last) versions

abbrev pub lines_up_to : ℕ → List SlotLine → Bool
lines_up_to last lines = list_all (λ line. versions_up_to last line.line) lines

-- the lease's life is that of its node
abbrev pub lives_there : List NodeLife → Lease → Bool
lives_there lives l = list_any (λ seen. seen.node.0 == l.node.0 && seen.life.0 == l.life.0) lives

-- two leases have a slot in common
abbrev pub shares : Lease → Lease → Bool
shares l m = list_any (λ x. has_slot m.slots x.0) l.slots

-- two leases have the same node, life and ask
abbrev pub is_same_ask : Lease → Lease → Bool
is_same_ask l m = l.node.0 == m.node.0 && (l.life.0 == m.life.0 && l.ask.0 == m.ask.0)

abbrev pub clash : Lease → Lease → Bool
clash l m = shares l m || is_same_ask l m

-- a slot of the lease is retired
abbrev pub has_retired : List SlotParts → Lease → Bool
has_retired retired l = list_any (λ s. has_slot l.slots s) retired

-- two slots are of the same PRIVATE folder
abbrev pub is_same_private : SlotParts × Bool → SlotParts × Bool → Bool
is_same_private a b = is_private a.0.folder.mode && folder_eq a.0.folder b.0.folder

-- one slot, of a SHARED folder, which may be written
abbrev pub is_tenured : List (SlotParts × Bool) → Bool
is_tenured [] = false
is_tenured (x ∷ []) = is_shared x.0.folder.mode && x.1
is_tenured (x ∷ y ∷ rest) = false

-- a slot of a SHARED folder
abbrev pub some_shared : List (SlotParts × Bool) → Bool
some_shared slots = list_any (λ x. is_shared x.0.folder.mode) slots

-- a tenure has one slot, SHARED and writable, and no other lease has a SHARED slot
abbrev pub fits_tenure : Lease → Bool
fits_tenure l = if l.tenure then is_tenured l.slots else not (some_shared l.slots)

-- the lease's node is gone for good
abbrev pub is_gone : List NodeId → Lease → Bool
is_gone gone l = list_any (λ n. n.0 == l.node.0) gone

-- the ticket is above all on the line
abbrev pub is_above_line : ℕ → List LineVersion → Bool
is_above_line ticket versions = list_all (λ v. nat_lt v.ticket.0 ticket) versions

-- the lease's ticket is above all on the lines of its slots
abbrev pub is_above_lines : List SlotLine → Lease → Bool
is_above_lines lines l = list_all (λ line. not (has_slot l.slots line.slot) || is_above_line l.ticket.0 line.line) lines

-- the node is the home
abbrev pub is_home : Option NodeId → NodeId → Bool
is_home None n = false
is_home (Some home) n = home.0 == n.0
