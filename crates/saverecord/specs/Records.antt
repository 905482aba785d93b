-- Reading a record from the left, up to its first fault.
use Rattle.std.specs.Prelude.{ℕ, suc, insert, ◌-◌, ◌==◌, ◌&&◌, nat_lt, nat_eq, Bool, if◌then◌else◌, List, [], ◌∷◌, length, take, drop, Option, Some, None, Result, Ok, Err, codes}
use Rattle.std.specs.Cmp.Lexicographic.{pointwise}
use Rattle.std.specs.List.{list_any}
use Rattle.std.specs.Int.{w64}
use Rattle.names.specs.declared.number.NodeId.{NodeId}
use Rattle.sha2.specs.Sha256.{sha256}
use Rattle.recordparts.specs.declared.layout.Layout.{Layout}
use Rattle.recordparts.specs.declared.layout.Layout.TheVariants.{First, Second, Third}
use Rattle.farm_base.specs.declared.lease.NodeLife.{NodeLife}
use Rattle.saverecord.specs.declared.record.Record.{Record}
use Rattle.recordparts.specs.declared.refusal.Flaw.TheVariants.{Trailing, Relation}
use Rattle.recordparts.specs.declared.refusal.RecordRefusal.{RecordRefusal}
use Rattle.recordparts.specs.declared.refusal.RecordRefusal.TheVariants.{Truncated, BadMagic, BadDigest}
use Rattle.recordparts.specs.Layouts.{has_retired_nodes}
use Rattle.codec.specs.Steps.{◌>>=◌}
use Rattle.recordparts.specs.Parts.{Part, passed, number_at, home_at}
use Rattle.saverecord.specs.Relations.{agrees, is_at_home}
use Rattle.recordlists.specs.Entries.{list_at, retired_node_at, node_life_at, retired_at, lease_at, line_at}

-- the retired nodes, where the layout has them
unfoldable pub retired_nodes_at : Layout → List ℕ → Part (List NodeId)
retired_nodes_at layout bytes = if has_retired_nodes layout then list_at retired_node_at layout bytes else Ok ([], bytes)

-- last ticket, home, lives, retired nodes, leases, retired slots and lines
unfoldable pub body_at : Layout → List ℕ → Part Record
body_at layout bytes = do
  last ← number_at w64 0 0xffff_ffff_ffff_ffff bytes
  home ← home_at last.1
  lives ← list_at node_life_at layout home.1
  retired_nodes ← retired_nodes_at layout lives.1
  leases ← list_at lease_at layout retired_nodes.1
  retired ← list_at retired_at layout leases.1
  lines ← list_at line_at layout retired.1
  Ok (
    record {
      last = record { 0 = last.0 };
      old_home = home.0;
      lives = lives.0;
      retired_nodes = retired_nodes.0;
      leases = leases.0;
      retired = retired.0;
      lines = lines.0;
    },
    lines.1,
  )

-- the parts of a record that fill all the bytes
unfoldable pub whole_body : Layout → List ℕ → Result Record RecordRefusal
whole_body layout bytes = do
  body ← body_at layout bytes
  passed Trailing (length body.1 == 0) body.0

-- the same bytes
abbrev pub is_same : List ℕ → List ℕ → Bool
is_same a b = pointwise nat_eq a b

-- `BKFARM01`, `BKFARM02` or `BKFARM03`
unfoldable pub layout_of : List ℕ → Result Layout RecordRefusal
layout_of magic =
    if is_same magic (codes "BKFARM01") then Ok First
    else if is_same magic (codes "BKFARM02") then Ok Second
    else if is_same magic (codes "BKFARM03") then Ok Third
    else Err BadMagic

-- the bytes between magic and digest, where the digest is that of all before it
unfoldable pub signed : List ℕ → Result (List ℕ) RecordRefusal
signed bytes =
    if is_same (sha256 (take (length bytes - 32) bytes)) (drop (length bytes - 32) bytes) then Ok (drop 8 (take (length bytes - 32) bytes))
    else Err BadDigest

-- what a magic stands for, and the bytes between magic and digest
unfoldable pub opened_by : {X : Type 0} → (List ℕ → Result X RecordRefusal) → List ℕ → Part X
opened_by read bytes = if nat_lt (length bytes) 40 then Err Truncated else (do
  layout ← read (take 8 bytes)
  body ← signed bytes
  Ok (layout, body))

-- the layout, and the bytes between magic and digest
abbrev pub opened : List ℕ → Part Layout
opened bytes = opened_by layout_of bytes

-- the place of the first life of a node above this one
abbrev pub place_for : NodeId → List NodeLife → ℕ
place_for node [] = 0
place_for node (seen ∷ lives) = if nat_lt node.0 seen.node.0 then 0 else suc (place_for node lives)

-- a life of the node is among these
abbrev pub has_life : NodeId → List NodeLife → Bool
has_life node lives = list_any (λ seen. seen.node.0 == node.0) lives

-- life 1 of the node is added in its place, if the lives have none of the node
unfoldable pub with_life : NodeId → List NodeLife → List NodeLife
with_life node lives = if has_life node lives then lives else insert lives (place_for node lives) (record { node = node; life = record { 0 = 1 } })

abbrev pub with_home : Option NodeId → List NodeLife → List NodeLife
with_home None lives = lives
with_home (Some node) lives = with_life node lives

-- a record of version 1, whose home becomes the old home
abbrev pub from_first : Record → Record
from_first r = record r { lives = with_home r.old_home r.lives }

-- the record, if its parts agree
unfoldable pub judged : Layout → Record → Result Record RecordRefusal
judged First r = passed Relation (agrees r && is_at_home r) (from_first r)
judged Second r = passed Relation (agrees r) r
judged Third r = passed Relation (agrees r) r

-- a record of version 1, 2 or 3, or its first fault
unfoldable pub record_of : List ℕ → Result Record RecordRefusal
record_of bytes = do
  parts ← opened bytes
  body ← whole_body parts.0 parts.1
  judged parts.0 body
