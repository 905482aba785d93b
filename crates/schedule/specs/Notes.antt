-- What is printed about what an event did.
use Rattle.std.specs.Prelude.{ℕ, List, ◌++◌, codes, decimal}
use Rattle.std.specs.List.{flat_map}
use Rattle.farm_base.specs.declared.message.Grant.{Grant}
use Rattle.farm_base.specs.declared.message.GrantedSlot.{GrantedSlot}
use Rattle.names.specs.Names.{slot_text}
use Rattle.words.specs.Words.{why_text}
use Rattle.events.specs.declared.answer.CoordNote.{CoordNote}
use Rattle.events.specs.declared.answer.CoordNote.TheVariants as coord
use Rattle.events.specs.declared.answer.NodeNote.{NodeNote}
use Rattle.events.specs.declared.answer.NodeNote.TheVariants as node
use Rattle.events.specs.declared.answer.EventNote.{EventNote}
use Rattle.events.specs.declared.answer.EventNote.TheVariants as event

-- ` SLOT=BASE`
abbrev pub granted_text : GrantedSlot → List ℕ
granted_text s = codes " " ++ slot_text s.slot ++ codes "=" ++ decimal s.base

-- the ticket, and each slot with the number of its base
abbrev pub grant_text : Grant → List ℕ
grant_text g = decimal g.ticket.0 ++ flat_map granted_text g.slots

-- what the coordinator did
abbrev pub coord_note_text : CoordNote → List ℕ
coord_note_text (coord.Granted g) = codes "granted " ++ grant_text g
coord_note_text (coord.GrantedBefore g) = codes "granted before " ++ grant_text g
coord_note_text coord.Parked = codes "parked"
coord_note_text (coord.Committed t) = codes "committed " ++ decimal t.0
coord_note_text (coord.CommittedBefore t) = codes "committed before " ++ decimal t.0
coord_note_text (coord.Fenced t) = codes "fenced " ++ decimal t.0
coord_note_text (coord.Released t) = codes "released " ++ decimal t.0
coord_note_text (coord.Denied why) = codes "denied " ++ why_text why
coord_note_text coord.OldLife = codes "old life"
coord_note_text coord.NodeRetired = codes "retired node"
coord_note_text (coord.Withdrawn t) = codes "withdrawn " ++ decimal t.0
coord_note_text (coord.Pruned t) = codes "pruned " ++ decimal t.0
coord_note_text (coord.Retired n) = codes "retired " ++ decimal n.0
coord_note_text coord.Nudged = codes "nudged"
coord_note_text coord.Nothing = codes "nothing"

-- what a node did
abbrev pub node_note_text : NodeNote → List ℕ
node_note_text (node.Asked a) = codes "asked " ++ decimal a.0
node_note_text (node.Begun t) = codes "begun " ++ decimal t.0
node_note_text (node.Finished t) = codes "finished " ++ decimal t.0
node_note_text (node.Aborted t) = codes "aborted " ++ decimal t.0
node_note_text node.Resent = codes "resent"
node_note_text (node.Life l) = codes "life " ++ decimal l.0
node_note_text (node.Took g) = codes "took " ++ grant_text g
node_note_text (node.GaveBack t) = codes "gave back " ++ decimal t.0
node_note_text (node.Learned t) = codes "learned " ++ decimal t.0
node_note_text (node.Dropped t) = codes "dropped " ++ decimal t.0
node_note_text (node.Denied why) = codes "denied " ++ why_text why
node_note_text (node.Recalled t) = codes "recalled " ++ decimal t.0
node_note_text node.SentBlob = codes "sent blob"
node_note_text node.BlobTaken = codes "blob taken"
node_note_text node.Forgot = codes "forgot"
node_note_text node.OldLife = codes "old life"
node_note_text node.Nothing = codes "nothing"

-- what an event did
abbrev pub note_text : EventNote → List ℕ
note_text (event.Coord note) = coord_note_text note
note_text (event.Node note) = node_note_text note
note_text event.Restarted = codes "restarted"
note_text event.Armed = codes "armed"
