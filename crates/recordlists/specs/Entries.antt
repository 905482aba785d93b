-- Reading lists: a count, and as many entries. How an entry is read may depend on the one before it.
use Rattle.std.specs.Prelude.{ℕ, zero, suc, nat_lt, Bool, true, false, if◌then◌else◌, List, [], ◌∷◌, Option, Some, None, Ok}
use Rattle.std.specs.Int.{w32, w64}
use Rattle.std.specs.Option.{option_map}
use Rattle.names.specs.declared.limits.TheConstants.{NODES}
use Rattle.farm_base.specs.declared.lease.Lease.{Lease}
use Rattle.farm_base.specs.declared.message.LineVersion.{LineVersion}
use Rattle.names.specs.declared.number.NodeId.{NodeId}
use Rattle.names.specs.declared.number.Ticket.{Ticket}
use Rattle.names.specs.Slots.{SlotParts}
use Rattle.recordparts.specs.declared.layout.Layout.{Layout}
use Rattle.farm_base.specs.declared.lease.NodeLife.{NodeLife}
use Rattle.versions.specs.declared.lines.SlotLine.{SlotLine}
use Rattle.recordparts.specs.declared.refusal.Flaw.TheVariants.{Order}
use Rattle.recordparts.specs.Layouts.{has_shared}
use Rattle.codec.specs.Steps.{◌>>=◌}
use Rattle.recordparts.specs.Parts.{Part, passed, number_at, flag_at, digest_at}
use Rattle.recordparts.specs.Slots.{slot_after}

-- how an entry is read after the one before it
abbrev pub Reader : Type 0 → Type 0
Reader X = Layout → Option X → List ℕ → Part X

-- the given number of entries
unfoldable pub each_at : {X : Type 0} → Reader X → Layout → Option X → ℕ → List ℕ → Part (List X)
each_at read layout before zero bytes = Ok ([], bytes)
each_at read layout before (suc n) bytes = do
  first ← read layout before bytes
  others ← each_at read layout (Some first.0) n first.1
  Ok (first.0 ∷ others.0, others.1)

-- a count from low to high, and as many entries
unfoldable pub counted_at : {X : Type 0} → Reader X → Layout → ℕ → ℕ → List ℕ → Part (List X)
counted_at read layout low high bytes = do
  count ← number_at w64 low high bytes
  each_at read layout None count.0 count.1

-- a list of any length
abbrev pub list_at : {X : Type 0} → Reader X → Layout → List ℕ → Part (List X)
list_at read layout bytes = counted_at read layout 0 0xffff_ffff_ffff_ffff bytes

-- the number is above the one before it
abbrev pub is_above : Option ℕ → ℕ → Bool
is_above None n = true
is_above (Some before) n = nat_lt before n

-- a node, 1 to 1,024
unfoldable pub node_at : List ℕ → Part NodeId
node_at bytes = do
  node ← number_at w32 1 NODES bytes
  Ok (record { 0 = node.0 }, node.1)

-- a ticket, a life or an ask: they begin at 1
unfoldable pub positive_at : List ℕ → Part ℕ
positive_at bytes = number_at w64 1 0xffff_ffff_ffff_ffff bytes

-- a node of a list that rises
unfoldable pub node_after : Option ℕ → List ℕ → Part NodeId
node_after before bytes = do
  node ← node_at bytes
  passed Order (is_above before node.0.0) node

-- a ticket of a list that rises
unfoldable pub ticket_after : Option ℕ → List ℕ → Part Ticket
ticket_after before bytes = do
  ticket ← positive_at bytes
  passed Order (is_above before ticket.0) (record { 0 = ticket.0 }, ticket.1)

abbrev pub ended_at : Reader Ticket
ended_at layout before bytes = ticket_after (option_map (λ ticket. ticket.0) before) bytes

abbrev pub retired_node_at : Reader NodeId
retired_node_at layout before bytes = node_after (option_map (λ node. node.0) before) bytes

unfoldable pub node_life_at : Reader NodeLife
node_life_at layout before bytes = do
  node ← node_after (option_map (λ seen. seen.node.0) before) bytes
  life ← positive_at node.1
  Ok (record { node = node.0; life = record { 0 = life.0 } }, life.1)

abbrev pub retired_at : Reader SlotParts
retired_at layout before bytes = slot_after layout before bytes

-- a slot of a lease, and whether it may be written
unfoldable pub leased_at : Reader (SlotParts × Bool)
leased_at layout before bytes = do
  slot ← slot_after layout (option_map (λ held. held.0) before) bytes
  writable ← flag_at slot.1
  Ok ((slot.0, writable.0), writable.1)

-- whether a lease is a tenure, where the layout says so
unfoldable pub tenure_at : Layout → List ℕ → Part Bool
tenure_at layout bytes = if has_shared layout then flag_at bytes else Ok (false, bytes)

unfoldable pub lease_at : Reader Lease
lease_at layout before bytes = do
  ticket ← ticket_after (option_map (λ lease. lease.ticket.0) before) bytes
  node ← node_at ticket.1
  life ← positive_at node.1
  ask ← positive_at life.1
  shared ← flag_at ask.1
  tenure ← tenure_at layout shared.1
  slots ← counted_at leased_at layout 0 16 tenure.1
  Ok (
    record {
      ticket = ticket.0;
      node = node.0;
      life = record { 0 = life.0 };
      ask = record { 0 = ask.0 };
      shared = shared.0;
      tenure = tenure.0;
      slots = slots.0;
    },
    slots.1,
  )

unfoldable pub version_at : Reader LineVersion
version_at layout before bytes = do
  ticket ← ticket_after (option_map (λ version. version.ticket.0) before) bytes
  digest ← digest_at ticket.1
  Ok (record { ticket = ticket.0; digest = digest.0 }, digest.1)

-- a slot, and its versions, at least one
unfoldable pub line_at : Reader SlotLine
line_at layout before bytes = do
  slot ← slot_after layout (option_map (λ line. line.slot) before) bytes
  versions ← counted_at version_at layout 1 0xffff_ffff_ffff_ffff slot.1
  Ok (record { slot = slot.0; line = versions.0 }, versions.1)
