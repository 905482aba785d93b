-- Why what changes nothing has to be a request of the store too: a run of two coordinators, by rules without that, in
-- which one fences a commit that counts with the other.
use Rattle.std.proofs.Common.{◌≡◌, ℕ, ◌++◌, List, [], ◌∷◌, true, false, None, Ok, refl, sym, subst, inl, inr, arith}
use Rattle.farm_base.specs.declared.lease.LeaseKind.TheVariants as kind
use Rattle.farm_base.specs.declared.message.ToNode.TheVariants as to_node
use Rattle.farm_base.specs.declared.message.FromCoord.TheVariants as told
use Rattle.farm_base.specs.declared.message.Request.TheVariants as request
use Rattle.events.specs.declared.answer.NodeNote.TheVariants as note
use Rattle.protocol.specs.Lists.{In, put}
use Rattle.protocol.specs.Names.{only_slot, NodeId, Life, Ticket, Digest, Want, FolderName, Locked}
use Rattle.protocol.specs.Machine.{Grant, LineVersion, Message, Said, Told, ToCoord}
use Rattle.protocol.specs.Ledger.{Limits, handled, decision, gives, newer_life, retried, tried, stays, lowest}
use Rattle.protocol.specs.Nodes.{Left, Place, NodeWork, opens, received, becomes, leaves, fetches}
use Rattle.protocol.specs.World.{Running, first_node}
use Rattle.protocol.specs.Lawful.{IsNumber}
use Rattle.protocol.specs.Processes.{Handle, MayCome, AllMayCome, Batch, batch, begin_batch, NodeCall, Receive, Ask_lease, Begin, Finish, MayReach, node_decided, Acts}
use Rattle.takeover.specs.TakeOver.{Store, Held, Request, Member, Idle, Waits, Cluster, started, outcome, goes_on, takes, Happens, Starts, Asks, Takes, Hears, Node_does, first_cluster, HappensUnasked, By_the_rules, Answers, Comes_unasked, Stays_so, And_so, FencedIsCommitted}
use Rattle.takeover.specs.TakeOver as several
use Rattle.protocol.proofs.Following.{part_refl}

-- one digest of all contents
abbrev sha : List ℕ → Digest
sha content = record { 0 = [] }

abbrev limits : Limits
limits = record { empty = record { 0 = [] }; instances = 1; greatest = 100 }

-- a LOCKED folder, and the one node, which asks for it, gets ticket 1, and commits
abbrev folder : FolderName
folder = record { id = 99 ∷ []; mode = Locked; base = None }

abbrev want : Want
want = record { folder = folder; writable = true }

abbrev n : NodeId
n = record { 0 = 1 }

abbrev l : Life
l = record { 0 = 1 }

abbrev t : Ticket
t = record { 0 = 1 }

abbrev here : Place
here = record { node = n; nodes = 1 }

abbrev ask : ToCoord
ask = record { node = n; life = l; request = request.Acquire (record { 0 = 1 }) (want ∷ []) false }

abbrev grant : Grant
grant = record {
  ticket = t;
  node = n;
  life = l;
  ask = record { 0 = 1 };
  kind = kind.Plain;
  slots = record { slot = only_slot folder; writable = true; base = 0; digest = sha [] } ∷ [];
}

abbrev left : List Left
left = record { slot = only_slot folder; content = [] } ∷ []

abbrev commit : ToCoord
commit = record { node = n; life = l; request = request.Commit t (record { slot = only_slot folder; digest = sha [] } ∷ []) }

-- ---- the node

abbrev asked : NodeWork
asked = opens here (want ∷ []) false (first_node sha)

abbrev took : NodeWork
took = received sha limits here (to_node.FromCoord (told.Granted grant)) asked.node

abbrev runs : NodeWork
runs = record { node = becomes 1 (Running (want ∷ []) grant false) took.node; sends = []; note = note.Begun t }

abbrev finished : NodeWork
finished = leaves sha here 1 (record { wants = want ∷ []; grant = grant; recalled = false }) left runs.node

-- the cluster where the node has done this
abbrev node_did : NodeWork → Cluster → Cluster
node_did w c = record c { nodes = put 1 w.node c.nodes; written = c.written ++ w.sends }

number : IsNumber 1 n
number = (omega arith, omega arith)

node_does : (c : Cluster) (call : NodeCall) (w : NodeWork) → MayReach c.written n call → node_decided sha limits here (c.nodes 1) call ≡ Ok w → Happens limits sha 1 c (node_did w c)
node_does c call w may ok = Node_does n w.sends w.node number (Acts 1 call w w.sends may ok (part_refl w.sends))

-- ---- the run

abbrev c0 : Cluster
c0 = first_cluster sha

-- the node asks
abbrev c1 : Cluster
c1 = node_did asked c0

-- coordinator 0 starts
abbrev c2 : Cluster
c2 = several.becomes 0 (Idle (started c1.store)) c1

abbrev first : Request
first = record { held = started c1.store; calls = Handle ask ∷ []; whole = false }

-- it grants the ask under ticket 1. The record has a new ceiling, and not the lease, since the folder is LOCKED
abbrev c3 : Cluster
c3 = record c2 { members = put 0 (Waits first) c2.members; requests = first ∷ [] }

abbrev c4 : Cluster
c4 = takes limits first c3

abbrev c5 : Cluster
c5 = record c4 { members = put 0 (Idle (goes_on limits first)) c4.members; written = c4.written ++ (outcome limits first).sends }

-- the node takes the Grant, begins and finishes
abbrev c6 : Cluster
c6 = node_did took c5

abbrev c7 : Cluster
c7 = node_did runs c6

abbrev c8 : Cluster
c8 = node_did finished c7

-- coordinator 1 starts, at the same revision
abbrev c9 : Cluster
c9 = several.becomes 1 (Idle (started c8.store)) c8

-- it knows no lease of ticket 1, and fences the commit: that changes nothing
abbrev fencing : Batch
fencing = batch limits (Handle commit ∷ []) (begin_batch (started c8.store).ledger (started c8.store).saved)

abbrev c10 : Cluster
c10 = record c9 { written = c9.written ++ fencing.sends }

-- coordinator 0 hears the same line, and commits
abbrev second : Request
second = record { held = goes_on limits first; calls = Handle commit ∷ []; whole = false }

abbrev c11 : Cluster
c11 = record c10 { members = put 0 (Waits second) c10.members; requests = second ∷ c10.requests }

abbrev c12 : Cluster
c12 = takes limits second c11

hears_only : (written : List Message) (saying : ToCoord) → In (Said saying) written → AllMayCome 1 written (Handle saying ∷ [])
hears_only written saying i call (inl e) = subst (MayCome 1 written) (sym e) i
hears_only written saying i call (inr j) = absurd j

-- what was written
granted : (outcome limits first).sends ≡ Told (told.Granted grant) ∷ []
unfolding handled decision gives newer_life retried tried stays lowest
granted = refl

fenced : fencing.sends ≡ Told (told.Fenced n l t) ∷ []
unfolding handled decision gives newer_life retried tried stays lowest
fenced = refl

same_ledger : fencing.ledger ≡ (started c8.store).ledger
unfolding handled decision gives newer_life retried tried stays lowest
same_ledger = refl

same_record : fencing.to_save ≡ (started c8.store).saved
unfolding handled decision gives newer_life retried tried stays lowest
same_record = refl

line : c12.store.saved.line (only_slot folder) ≡ record { ticket = t; digest = sha [] } ∷ []
unfolding handled decision gives newer_life retried tried stays lowest
line = refl

-- ---- it is a run

abbrev Came : Cluster → Type 0
Came c = Comes_unasked limits sha 1 c0 c

rule : (c later : Cluster) → Came c → Happens limits sha 1 c later → Came later
rule c later came h = And_so c later came (By_the_rules later h)

-- each line that is heard was written
ask_written : In (Said ask) c2.written
ask_written = inl refl

grant_written : In (Told (told.Granted grant)) c5.written
unfolding handled decision gives newer_life retried tried stays lowest
grant_written = inr (inl refl)

commit_written : In (Said commit) c9.written
unfolding handled decision gives newer_life retried tried stays lowest fetches
commit_written = inr (inr (inl refl))

fenced_written : In (Told (told.Fenced n l t)) c12.written
unfolding handled decision gives newer_life retried tried stays lowest fetches
fenced_written = inr (inr (inr (inl refl)))

-- the node can do so
asks_so : node_decided sha limits here (c0.nodes 1) (Ask_lease (want ∷ [])) ≡ Ok asked
asks_so = refl

takes_so : node_decided sha limits here (c5.nodes 1) (Receive (to_node.FromCoord (told.Granted grant))) ≡ Ok took
takes_so = refl

begins_so : node_decided sha limits here (c6.nodes 1) (Begin t) ≡ Ok runs
begins_so = refl

finishes_so : node_decided sha limits here (c7.nodes 1) (Finish t left) ≡ Ok finished
finishes_so = refl

-- coordinator 0 works at the store's revision, both times
current : second.held.revision ≡ c11.store.revision
current = refl

came_5 : Came c5
came_5 =
    let k1 = rule c0 c1 Stays_so (node_does c0 (Ask_lease (want ∷ [])) asked tt asks_so) in
    let k2 = rule c1 c2 k1 (Starts 0 c1.store (inl refl)) in
    let k3 = rule c2 c3 k2 (Asks 0 (started c1.store) (Handle ask ∷ []) false refl (hears_only c2.written ask ask_written)) in
    let k4 = rule c3 c4 k3 (Takes first (inl refl) refl) in
    rule c4 c5 k4 (Hears 0 first (outcome limits first).sends refl (inl refl) (part_refl (outcome limits first).sends))

came_9 : Came c9
came_9 =
    let k6 = rule c5 c6 came_5 (node_does c5 (Receive (to_node.FromCoord (told.Granted grant))) took (grant_written, refl) takes_so) in
    let k7 = rule c6 c7 k6 (node_does c6 (Begin t) runs tt begins_so) in
    let k8 = rule c7 c8 k7 (node_does c7 (Finish t left) finished tt finishes_so) in
    rule c8 c9 k8 (Starts 1 c8.store (inl refl))

came_10 : Came c10
came_10 = And_so c9 c10 came_9 (Answers 1 (started c8.store) (Handle commit ∷ []) fencing.sends refl (hears_only c9.written commit commit_written) refl same_ledger same_record (part_refl fencing.sends))

commit_heard : In (Said commit) c10.written
unfolding handled decision gives newer_life retried tried stays lowest fetches
commit_heard = inr (inr (inl refl))

came_12 : Came c12
came_12 =
    let k11 = rule c10 c11 came_10 (Asks 0 (goes_on limits first) (Handle commit ∷ []) false refl (hears_only c10.written commit commit_heard)) in
    rule c11 c12 k11 (Takes second (inl refl) current)

on_the_line : In (record { ticket = t; digest = sha [] }) (c12.store.saved.line (only_slot folder))
on_the_line = subst (λ (versions : List LineVersion). In (record { ticket = t; digest = sha [] }) versions) (sym line) (inl refl)

pub fenced_is_committed : FencedIsCommitted
fenced_is_committed = record {
  sha = sha;
  limits = limits;
  farm = record { empty = refl; instances = omega arith };
  cluster = c12;
  comes = came_12;
  node = n;
  life = l;
  ticket = t;
  fenced = fenced_written;
  slot = only_slot folder;
  version = record { ticket = t; digest = sha [] };
  on_line = on_the_line;
  of_ticket = refl;
}
