-- What a node does of a call (this project's own).
use Rattle.std.specs.Prelude.{◌≡◌, ◌≤◌, ◌⊎◌, ℕ, ◌+◌, ◌*◌, true, false, List, [], ◌∷◌, map, Option, Some, None, is_some, Result, is_ok}
use Rattle.std.specs.List.{Contains}
use Rattle.names.specs.Contents.{content_digest}
use Rattle.farm_base.specs.declared.message.FromCoord.{FromCoord}
use Rattle.farm_base.specs.declared.message.FromCoord.TheVariants.{Granted, Committed, Fenced, Denied, Recall}
use Rattle.farm_base.specs.declared.message.ToNode.TheVariants as to_node
use Rattle.nodecore.specs.declared.message.NodeDone.{NodeDone}
use Rattle.nodeasks.specs.Rows.{endings_after, present_asks}
use Rattle.nodecore.specs.Shown.{Answers, hearing}
use Rattle.events.specs.declared.answer.NodeRefusal.{NodeRefusal}
use Rattle.protocol.specs.Farm.{farm_limits}
use Rattle.protocol.specs.Names.{Digest, NodeId}
use Rattle.protocol.specs.Nodes.{Place, NodeAnswer, unless_spent}
use Rattle.protocol.specs.Processes.{node_decided}
use Rattle.protocol.specs.Processes as process
use Rattle.protocol.specs.World.{Node}
use Rattle.nodelines.specs.declared.about.About.{About}
use Rattle.nodelines.specs.declared.about.About.TheVariants as about
use Rattle.nodelines.specs.declared.order.Call.{Call}
use Rattle.nodelines.specs.declared.order.Call.TheVariants as call
use Rattle.nodefilter.specs.States.{Seen, IsSound}
use Rattle.nodestore.specs.Stores.{Kept, StayKept}

-- what the protocol's rules make of the call. A content that the agent brings is heard as if another node had sent it
abbrev pub node_answer : NodeId → Place → Node → Call → NodeAnswer
node_answer me at x (call.Receive message) = unless_spent x (hearing at x message)
node_answer me at x (call.Ask wants) = node_decided content_digest farm_limits at x (process.Ask_lease wants)
node_answer me at x (call.Tenure folder) = node_decided content_digest farm_limits at x (process.Ask_tenure folder)
node_answer me at x (call.Begin ticket) = node_decided content_digest farm_limits at x (process.Begin ticket)
node_answer me at x (call.Finish ticket lefts) =
    node_decided content_digest farm_limits at x (process.Finish ticket lefts)
node_answer me at x (call.Abort ticket) = node_decided content_digest farm_limits at x (process.Abort ticket)
node_answer me at x call.Resend = node_decided content_digest farm_limits at x process.Resend
node_answer me at x (call.Bring content) = unless_spent x (hearing at x (to_node.Blob me content))
node_answer me at x (call.Forget digest) = node_decided content_digest farm_limits at x (process.Forget digest)

-- the digests of the contents that the node may store at the call
abbrev pub brought_by : Call → List Digest
brought_by (call.Receive (to_node.FromCoord told)) = []
brought_by (call.Receive (to_node.Fetch fetch)) = []
brought_by (call.Receive (to_node.Blob node content)) = content_digest content ∷ []
brought_by (call.Ask wants) = []
brought_by (call.Tenure folder) = []
brought_by (call.Begin ticket) = []
brought_by (call.Finish ticket lefts) = map (λ left. content_digest left.content) lefts
brought_by (call.Abort ticket) = []
brought_by call.Resend = []
brought_by (call.Bring content) = content_digest content ∷ []
brought_by (call.Forget digest) = []

-- the digest of the content that the node is to store no longer
abbrev pub forgotten_by : Call → Option Digest
forgotten_by (call.Receive message) = None
forgotten_by (call.Ask wants) = None
forgotten_by (call.Tenure folder) = None
forgotten_by (call.Begin ticket) = None
forgotten_by (call.Finish ticket lefts) = None
forgotten_by (call.Abort ticket) = None
forgotten_by call.Resend = None
forgotten_by (call.Bring content) = None
forgotten_by (call.Forget digest) = Some digest

-- of these digests there is one whose content is stored
abbrev pub SomeStored : (Digest → Option (List ℕ)) → List Digest → Type 0
SomeStored store ds = (d : Digest) × Contains ds d × (is_some (store d) ≡ true)

-- what the coordinator's message is about, where the note leaves it out
abbrev pub about_told : FromCoord → About
about_told (Granted grant) = about.Nothing
about_told (Committed node life ticket versions) = about.Versions versions
about_told (Fenced node life ticket) = about.Nothing
about_told (Denied node life ask why) = about.OfAsk ask
about_told (Recall node life ticket) = about.Nothing

-- the same, of a call
abbrev pub about_call : Call → About
about_call (call.Receive (to_node.FromCoord told)) = about_told told
about_call (call.Receive (to_node.Fetch fetch)) = about.Nothing
about_call (call.Receive (to_node.Blob node content)) = about.Nothing
about_call (call.Ask wants) = about.Nothing
about_call (call.Tenure folder) = about.Nothing
about_call (call.Begin ticket) = about.Nothing
about_call (call.Finish ticket lefts) = about.Nothing
about_call (call.Abort ticket) = about.Nothing
about_call call.Resend = about.Nothing
about_call (call.Bring content) = about.Nothing
about_call (call.Forget digest) = about.Nothing

-- the node does what the rules make of the call, and what it stored is kept then, and what it forgot no longer. If that fails, the filter is down
pub record CarriesOut {S : Type 0} (kept : Kept S) (last_life : S → ℕ) (call : Call) (old new : Seen S)
    (answer : Result NodeDone NodeRefusal) : Type 0 where
  pub done : Answers (node_answer old.me old.at old.node call) old.node new.node answer
  pub same : new ≡ record old { node = new.node; forgets = new.forgets; held = new.held; store = new.store; down = new.down }
  -- an ask is forgotten only where 1,024 of greater numbers are over
  pub late : (a : ℕ) → new.forgets a ≡ true → (old.forgets a ≡ true) ⊎ (1024 ≤ endings_after a new.node.asks)
  -- at most twice as many asks are held as are present, and 2,048 more: how older ones ended is forgotten
  pub few : new.held ≤ 2 * present_asks new.node.asks + 2048
  pub others : StayKept kept (forgotten_by call) old.store new.store
  -- no life but the one that the process began is kept
  pub life : last_life new.store ≡ last_life old.store
  -- a content that the node forgot is kept no longer
  pub dropped : (d : Digest) → forgotten_by call ≡ Some d → is_ok answer ≡ true → new.down ≡ false → kept new.store d ≡ false
  -- the filter goes down only at a call that is done, and that brought a content which the node stores, or forgot one
  pub fails : new.down ≡ true → (is_ok answer ≡ true) × (SomeStored new.node.store (brought_by call) ⊎ (is_some (forgotten_by call) ≡ true))
  pub sound : IsSound kept old → IsSound kept new
