-- An entry of a log: its bytes, how it is read, and what has to be met to write it. The rules are this project's own
-- (docs/FORMATS.md, "The log").
use Rattle.std.specs.Prelude.{ℕ, ◌<◌, ◌^◌, ◌==◌, if◌then◌else◌, List, ◌++◌, length, map, Result, Ok, Err, codes}
use Rattle.std.specs.Int.{w64}
use Rattle.std.specs.List.{AllByRecursion}
use Rattle.std.specs.List.Sorted.{IsStrictlyIncreasing, IsStrictlySortedBy}
use Rattle.names.specs.Slots.{slot_cmp}
use Rattle.sha2.specs.Sha256.{sha256}
use Rattle.codec.specs.Steps.{◌>>=◌}
use Rattle.recordparts.specs.declared.layout.Layout.TheVariants.{Third}
use Rattle.recordparts.specs.declared.layout.Layout.{Layout}
use Rattle.saverecord.specs.declared.log_entry.LogEntry.{LogEntry}
use Rattle.recordparts.specs.declared.refusal.Flaw.TheVariants.{Trailing}
use Rattle.recordparts.specs.declared.refusal.RecordRefusal.{RecordRefusal}
use Rattle.recordparts.specs.declared.refusal.RecordRefusal.TheVariants.{BadMagic}
use Rattle.recordparts.specs.Parts.{Part, passed, number_at, home_at}
use Rattle.recordlists.specs.Entries.{ended_at, retired_node_at, node_life_at, retired_at, lease_at, line_at, list_at}
use Rattle.saverecord.specs.Records.{is_same, opened_by}
use Rattle.recordparts.specs.Spelling.{number64, slot_bytes, home_bytes}
use Rattle.recordlists.specs.EntrySpelling.{counted, ticket_bytes, node_bytes, node_life_bytes, lease_bytes, line_bytes}
use Rattle.recordparts.specs.Fits.{IsNode, IsHome, IsTypedSlot}
use Rattle.recordlists.specs.EntryFits.{IsTicket, IsNodeLife, IsLease, IsSlotLine, IsTypedTicket, IsTypedNode, IsTypedLife, IsTypedLease, IsTypedLine, IsTypedList}

-- ---- the bytes

-- last ticket and old home
unfoldable pub place_bytes : LogEntry → List ℕ
place_bytes e = number64 e.last.0 ++ home_bytes e.old_home

-- lives and retired nodes
unfoldable pub nodes_bytes : LogEntry → List ℕ
nodes_bytes e = counted node_life_bytes e.lives ++ counted node_bytes e.retired_nodes

-- leases that ended, and that were granted
unfoldable pub leases_bytes : LogEntry → List ℕ
leases_bytes e = counted ticket_bytes e.ended ++ counted lease_bytes e.leases

-- retired slots and lines
unfoldable pub slots_bytes : LogEntry → List ℕ
slots_bytes e = counted slot_bytes e.retired ++ counted line_bytes e.lines

-- the parts in their order
abbrev pub parts_bytes : LogEntry → List ℕ
parts_bytes e = place_bytes e ++ (nodes_bytes e ++ (leases_bytes e ++ slots_bytes e))

-- the magic, and the parts
abbrev pub signed_bytes : LogEntry → List ℕ
signed_bytes e = codes "BKENTR01" ++ parts_bytes e

-- what is written of an entry: magic, parts, and the SHA-256 of both
abbrev pub entry_bytes : LogEntry → List ℕ
entry_bytes e = signed_bytes e ++ sha256 (signed_bytes e)

-- ---- reading

-- last ticket, home, lives, retired nodes, leases that ended and that were granted, retired slots and lines
unfoldable pub parts_at : List ℕ → Part LogEntry
parts_at bytes = do
  last ← number_at w64 0 0xffff_ffff_ffff_ffff bytes
  home ← home_at last.1
  lives ← list_at node_life_at Third home.1
  retired_nodes ← list_at retired_node_at Third lives.1
  ended ← list_at ended_at Third retired_nodes.1
  leases ← list_at lease_at Third ended.1
  retired ← list_at retired_at Third leases.1
  lines ← list_at line_at Third retired.1
  Ok (
    record {
      last = record { 0 = last.0 };
      old_home = home.0;
      lives = lives.0;
      retired_nodes = retired_nodes.0;
      ended = ended.0;
      leases = leases.0;
      retired = retired.0;
      lines = lines.0;
    },
    lines.1,
  )

-- the parts of an entry that fill all the bytes
unfoldable pub whole_parts : List ℕ → Result LogEntry RecordRefusal
whole_parts bytes = do
  parts ← parts_at bytes
  passed Trailing (length parts.1 == 0) parts.0

-- `BKENTR01`: its lists are laid out as those of a record of version 3
unfoldable pub entry_layout : List ℕ → Result Layout RecordRefusal
entry_layout magic = if is_same magic (codes "BKENTR01") then Ok Third else Err BadMagic

-- an entry, or its first fault
unfoldable pub entry_of : List ℕ → Result LogEntry RecordRefusal
entry_of bytes = do
  parts ← opened_by entry_layout bytes
  whole_parts parts.1

-- ---- what has to be met to write it

-- the ranges and orders of an entry's parts
pub record IsLogEntry (e : LogEntry) : Type 0 where
  pub home : IsHome e.old_home
  pub lives_rise : IsStrictlyIncreasing (map (λ x. x.node.0) e.lives)
  pub lives : AllByRecursion IsNodeLife e.lives
  pub nodes_rise : IsStrictlyIncreasing (map (λ n. n.0) e.retired_nodes)
  pub nodes : AllByRecursion IsNode e.retired_nodes
  pub ended_rise : IsStrictlyIncreasing (map (λ t. t.0) e.ended)
  pub ended : AllByRecursion IsTicket e.ended
  pub leases_rise : IsStrictlyIncreasing (map (λ l. l.ticket.0) e.leases)
  pub leases : AllByRecursion IsLease e.leases
  pub retired_rise : IsStrictlySortedBy slot_cmp e.retired
  pub lines_rise : IsStrictlySortedBy slot_cmp (map (λ l. l.slot) e.lines)
  pub lines : AllByRecursion IsSlotLine e.lines

-- what the types guarantee
pub record IsTypedLogEntry (e : LogEntry) : Type 0 where
  pub last : e.last.0 < 2 ^ 64
  pub lives : IsTypedList IsTypedLife e.lives
  pub nodes : IsTypedList IsTypedNode e.retired_nodes
  pub ended : IsTypedList IsTypedTicket e.ended
  pub leases : IsTypedList IsTypedLease e.leases
  pub retired : IsTypedList IsTypedSlot e.retired
  pub lines : IsTypedList IsTypedLine e.lines
