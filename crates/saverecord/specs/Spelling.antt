-- The one spelling of a record, of version 3.
use Rattle.std.specs.Prelude.{ℕ, List, ◌++◌, codes}
use Rattle.sha2.specs.Sha256.{sha256}
use Rattle.recordparts.specs.Spelling.{number64, slot_bytes, home_bytes}
use Rattle.recordlists.specs.EntrySpelling.{counted, node_bytes, node_life_bytes, lease_bytes, line_bytes}
use Rattle.saverecord.specs.declared.record.Record.{Record}

-- last ticket and old home
unfoldable pub first_bytes : Record → List ℕ
first_bytes r = number64 r.last.0 ++ home_bytes r.old_home

-- lives and retired nodes
unfoldable pub nodes_bytes : Record → List ℕ
nodes_bytes r = counted node_life_bytes r.lives ++ counted node_bytes r.retired_nodes

-- leases, retired slots and lines
unfoldable pub slots_bytes : Record → List ℕ
slots_bytes r = counted lease_bytes r.leases ++ (counted slot_bytes r.retired ++ counted line_bytes r.lines)

-- the parts in their order
abbrev pub body_bytes : Record → List ℕ
body_bytes r = first_bytes r ++ (nodes_bytes r ++ slots_bytes r)

-- the magic of version 3, and the parts
abbrev pub signed_bytes : Record → List ℕ
signed_bytes r = codes "BKFARM03" ++ body_bytes r

-- what is written of a record: magic, parts, and the SHA-256 of both
abbrev pub record_bytes : Record → List ℕ
record_bytes r = signed_bytes r ++ sha256 (signed_bytes r)
