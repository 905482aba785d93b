-- What has a spelling: what a record has to meet to be written, and what the program's types guarantee besides.
use Rattle.std.specs.Prelude.{◌≡◌, ◌<◌, ◌^◌, true, map}
use Rattle.std.specs.List.{AllByRecursion}
use Rattle.std.specs.List.Sorted.{IsStrictlyIncreasing, IsStrictlySortedBy}
use Rattle.names.specs.Slots.{slot_cmp}
use Rattle.recordparts.specs.Fits.{IsNode, IsHome, IsTypedSlot}
use Rattle.recordlists.specs.EntryFits.{IsNodeLife, IsLease, IsSlotLine, IsTypedNode, IsTypedLife, IsTypedLease, IsTypedLine, IsTypedList}
use Rattle.saverecord.specs.declared.record.Record.{Record}
use Rattle.saverecord.specs.Relations.{agrees}

-- the ranges and orders of a record's parts
pub record HasParts (r : Record) : Type 0 where
  pub home : IsHome r.old_home
  pub lives_rise : IsStrictlyIncreasing (map (λ x. x.node.0) r.lives)
  pub lives : AllByRecursion IsNodeLife r.lives
  pub nodes_rise : IsStrictlyIncreasing (map (λ n. n.0) r.retired_nodes)
  pub nodes : AllByRecursion IsNode r.retired_nodes
  pub leases_rise : IsStrictlyIncreasing (map (λ l. l.ticket.0) r.leases)
  pub leases : AllByRecursion IsLease r.leases
  pub retired_rise : IsStrictlySortedBy slot_cmp r.retired
  pub lines_rise : IsStrictlySortedBy slot_cmp (map (λ l. l.slot) r.lines)
  pub lines : AllByRecursion IsSlotLine r.lines

-- the parts are in order, and they agree
pub record IsRecord (r : Record) : Type 0 where
  pub parts : HasParts r
  pub relations : agrees r ≡ true

-- what the types guarantee
pub record IsTypedRecord (r : Record) : Type 0 where
  pub last : r.last.0 < 2 ^ 64
  pub lives : IsTypedList IsTypedLife r.lives
  pub nodes : IsTypedList IsTypedNode r.retired_nodes
  pub leases : IsTypedList IsTypedLease r.leases
  pub retired : IsTypedList IsTypedSlot r.retired
  pub lines : IsTypedList IsTypedLine r.lines
