-- The nodes of a farm by their numbers, and what an event asks of one.
use Rattle.std.specs.Prelude.{◌≡◌, ℕ, Bool, true, false, ◌&&◌, nat_le, List, length, All, Option, Some, None, Result, Ok, Err}
use Rattle.names.specs.Contents.{content_digest}
use Rattle.protocol.specs.Farm.{farm_limits}
use Rattle.protocol.specs.Lists.{nth, put}
use Rattle.protocol.specs.Names.{NodeId}
use Rattle.protocol.specs.World.{Node, first_node}
use Rattle.protocol.specs.Nodes.{Place, NodeAnswer, may_restart, restarted, asked, asked_tenure, begun, finished_with, aborted, forgotten, brought, unless_spent}
use Rattle.nodecore.specs.declared.node_core.NodeCore.{NodeCore}
use Rattle.events.specs.declared.answer.NodeRefusal.{NodeRefusal}
use Rattle.events.specs.declared.answer.NodeRefusal.TheVariants as refusal
use Rattle.nodecore.specs.declared.message.NodeDone.{NodeDone}
use Rattle.nodeasks.specs.Rows.{none_lost}
use Rattle.nodecore.specs.Shown.{forgets, shown, place, work_of}
use Rattle.world.specs.declared.call.Call.{Call}
use Rattle.world.specs.declared.call.Call.TheVariants as call

-- a node that isn't there is as one that has just started
abbrev pub shown_or_first : Option NodeCore → Node
shown_or_first None = first_node content_digest
shown_or_first (Some x) = shown x

abbrev pub node_at : List NodeCore → ℕ → Node
node_at cores n = shown_or_first (nth cores n)

-- the node knows its number, and how many nodes there are, and has forgotten of no ask how it ended
pub record IsSeated (n count : ℕ) (x : NodeCore) : Type 0 where
  pub number : (place x).node.0 ≡ n
  pub size : (place x).nodes ≡ count
  pub told : forgets x ≡ none_lost

abbrev pub AreSeated : List NodeCore → Type 0
AreSeated cores = (n : ℕ) (x : NodeCore) → nth cores n ≡ Some x → IsSeated n (length cores) x

-- nodes are counted from 1
abbrev pub has : List NodeCore → NodeId → Bool
has cores n = nat_le 1 n.0 && nat_le n.0 (length cores)

abbrev pub seat : List NodeCore → NodeId → Place
seat cores n = record { node = n; nodes = length cores }

-- no node but this one has changed
pub record OnlyNode (n : NodeId) (old new : List NodeCore) : Type 0 where
  pub size : length new ≡ length old
  pub nodes : node_at new ≡ put n.0 (node_at new n.0) (node_at old)

-- the node's answer to a call
abbrev pub called : Call → Place → Node → NodeAnswer
called (call.Ask wants) p x = asked farm_limits p wants x
called (call.Tenure folder) p x = asked_tenure farm_limits p folder x
called (call.Begin t) p x = begun t x
called (call.Finish t lefts) p x = finished_with content_digest p t lefts x
called (call.Abort t) p x = aborted p t x
called (call.Forge content) p x = unless_spent x (brought content_digest content x)
called (call.Forget digest) p x = forgotten farm_limits digest x

-- the first so_far nodes of all, in their first lives, each in its place
pub record AreFirstOf (all so_far : ℕ) (cores : List NodeCore) : Type 0 where
  pub len : length cores ≡ so_far
  pub first : All (λ x. shown x ≡ first_node content_digest) cores
  pub seated : (n : ℕ) (x : NodeCore) → nth cores n ≡ Some x → IsSeated n all x

abbrev pub AreFirst : ℕ → List NodeCore → Type 0
AreFirst count cores = AreFirstOf count count cores

-- the result of a restart: a new life, or the last one is over for good
abbrev pub Restarts : Place → Node → Node → Result NodeDone NodeRefusal → Type 0
Restarts p old new (Ok done) = (may_restart farm_limits old ≡ true) × (restarted p old ≡ work_of new done)
Restarts p old new (Err refusal.LivesSpent) = (may_restart farm_limits old ≡ false)
    × (new ≡ record old { spent = true })
Restarts p old new (Err refusal.OutOfMemory) = new ≡ old
Restarts p old new (Err e) = ⊥
