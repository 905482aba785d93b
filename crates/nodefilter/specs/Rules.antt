-- A node's filter is a node of protocol's processes: it does with lines only what the rules allow.
use Rattle.std.specs.Prelude.{◌≡◌, ℕ, ◌≤◌, Bool, true, false, List, [], ◌∷◌, ◌++◌, Option, None, Some, Result, Ok, Err}
use mathlib.Core.Logic.{inl, inr}
use Rattle.std.specs.List.{All}
use Rattle.std.specs.String.{string_bytes}
use Rattle.names.specs.Contents.{content_digest}
use Rattle.names.specs.declared.limits.TheConstants.{NODES}
use Rattle.farm_base.specs.declared.message.Message.{Message}
use Rattle.names.specs.declared.number.NodeId.{NodeId}
use Rattle.protocol.specs.Farm.{farm_limits}
use Rattle.protocol.specs.Lawful.{IsNumber}
use Rattle.protocol.specs.Lists.{put}
use Rattle.protocol.specs.Names.{Digest}
use Rattle.events.specs.declared.answer.NodeRefusal.{NodeRefusal}
use Rattle.protocol.specs.HostileProcesses.{RaidRuns}
use Rattle.protocol.specs.Processes.{Processes}
use Rattle.protocol.specs.World.{Node}
use Rattle.services.specs.Says.{Says, AreOfTheFarm}
use Rattle.services.specs.Served.{Steps, Answers, Batch}
use Rattle.nodefilter.specs.declared.filter.NodeFilter.{NodeFilter}
use Rattle.nodecore.specs.declared.message.NodeDone.{NodeDone}
use Rattle.services.specs.declared.lost.Lost.{Lost}
use Rattle.nodelines.specs.declared.order.Call.{Call}
use Rattle.nodelines.specs.declared.order.Order.{Order}
use Rattle.nodefilter.specs.Carried.{forgotten_by}
use Rattle.nodefilter.specs.Filters.{Makes, Follows, Filters, IsSettled}
use Rattle.nodefilter.specs.Filters.Makes.{Made, Stopped}
use Rattle.nodefilter.specs.Filters.Follows.{Calls, Misses, Is_large, Hands, Has_not, Tells}
use Rattle.nodefilter.specs.Filters.Filters.{Is_down, Does, Drops}
use Rattle.nodefilter.specs.declared.starting.Origin.{Origin}
use Rattle.nodefilter.specs.declared.starting.Started.{Started}
use Rattle.nodefilter.specs.Starts.{Begins}
use Rattle.nodefilter.specs.States.{Seen, seen}
use Rattle.nodestore.specs.Stores.{Kept, HadBytes}
use Rattle.farmwire.specs.Sealed.{key_in}

-- the filter is one of the farm's nodes, and while it is up this is its state among the processes. One that is down does nothing any more
pub record IsNodeOf {S : Type 0} (p : Processes) (f : Seen S) : Type 0 where
  pub number : IsNumber NODES f.me
  pub itself : f.at.node ≡ f.me
  pub node : f.down ≡ false → p.nodes f.me.0 ≡ f.node

-- these processes, of which this one is the node now and wrote these messages
abbrev pub with_node : Processes → NodeId → Node → List Message → Processes
with_node p me node messages = record p { nodes = put me.0 node p.nodes; written = p.written ++ messages }

-- whatever nodes were taken over beside this one, the rules let the processes become these
abbrev pub MayBecome : NodeId → Processes → Processes → Type 0
MayBecome me p later = (taken : ℕ → Bool) → taken me.0 ≡ false → RaidRuns taken content_digest farm_limits NODES p later

-- a step of the filter
abbrev pub node_steps : {S : Type 0} → Kept S → (S → ℕ) → HadBytes S → Steps (NodeFilter S)
node_steps kept last_life had old given answer new = Filters kept last_life had given answer (seen old) (seen new)

-- ---- the messages of what is written

-- where a content could not be kept or forgotten, none
abbrev pub sends_of : Bool → Result NodeDone NodeRefusal → List Message
sends_of true answer = []
sends_of false (Ok done) = done.sends
sends_of false (Err refusal) = []

abbrev pub made_messages : {S : Type 0} {kept : Kept S} {last_life : S → ℕ} {call : Call} {old new : Seen S} {answer : List ℕ}
    → Makes kept last_life call old new answer → List Message
made_messages {S} {kept} {last_life} {call} {old} {new} {answer} (Made done carries (inl written)) = sends_of new.down done
made_messages {S} {kept} {last_life} {call} {old} {new} {answer} (Made done carries (inr lost)) = []
made_messages {S} {kept} {last_life} {call} {old} {new} {answer} (Stopped same out) = []

abbrev pub followed_messages : {S : Type 0} {kept : Kept S} {last_life : S → ℕ} {had : HadBytes S} {o : Order} {old new : Seen S} {answer : List ℕ}
    → Follows kept last_life had o old new answer → List Message
followed_messages (Calls call is makes) = made_messages makes
followed_messages (Misses file same text) = []
followed_messages (Is_large large same text) = []
followed_messages (Hands digest file content is stored written same text) = []
followed_messages (Has_not digest file is none same text) = []
followed_messages (Tells ask is same text) = []

-- those of a line's answer
abbrev pub line_messages : {S : Type 0} {kept : Kept S} {last_life : S → ℕ} {had : HadBytes S} {given : Result (List ℕ) Lost} {answer : List ℕ}
    {old new : Seen S} → Filters kept last_life had given answer old new → List Message
line_messages (Is_down down same text) = []
line_messages (Does o up asks follows) = followed_messages follows
line_messages (Drops why up nothing_asked same text) = []

-- those of the answers of some lines
abbrev pub messages_of : {S : Type 0} (kept : Kept S) (last_life : S → ℕ) (had : HadBytes S) (limit : ℕ) (old new : NodeFilter S)
    (lines answers : List (List ℕ))
    → Answers (node_steps kept last_life had) limit old lines answers new → List Message
messages_of kept last_life had limit old new [] [] h = []
messages_of kept last_life had limit old new [] (answer ∷ answers) h = []
messages_of kept last_life had limit old new (line ∷ lines) [] h = []
messages_of kept last_life had limit old new (line ∷ lines) (answer ∷ answers) h =
    line_messages h.3 ++ messages_of kept last_life had limit h.1 new lines answers h.4

-- those of lines that were answered together
abbrev pub batch_messages : {S : Type 0} (kept : Kept S) (last_life : S → ℕ) (had : HadBytes S) (limit : ℕ) (lines : List (List ℕ)) (text : List ℕ)
    (old new : NodeFilter S)
    → Batch (node_steps kept last_life had) IsSettled limit lines text old new → List Message
batch_messages kept last_life had limit lines text old new b = messages_of kept last_life had limit old b.answered_to lines b.answers b.answered

-- ---- the node that is left

-- of the node before a call and after it. Where it could not forget a content, and so is down, that may be found again: it counts as had
abbrev pub left_of : Option Digest → Bool → Node → Node → Node
left_of (Some digest) true before after = before
left_of (Some digest) false before after = after
left_of None down before after = after

abbrev pub made_node : {S : Type 0} {kept : Kept S} {last_life : S → ℕ} {call : Call} {old new : Seen S} {answer : List ℕ}
    → Node → Makes kept last_life call old new answer → Node
made_node {S} {kept} {last_life} {call} {old} {new} {answer} before (Made done carries written) =
    left_of (forgotten_by call) new.down before new.node
made_node {S} {kept} {last_life} {call} {old} {new} {answer} before (Stopped same out) = before

abbrev pub followed_node : {S : Type 0} {kept : Kept S} {last_life : S → ℕ} {had : HadBytes S} {o : Order} {old new : Seen S} {answer : List ℕ}
    → Node → Follows kept last_life had o old new answer → Node
followed_node before (Calls call is makes) = made_node before makes
followed_node before (Misses file same text) = before
followed_node before (Is_large large same text) = before
followed_node before (Hands digest file content is stored written same text) = before
followed_node before (Has_not digest file is none same text) = before
followed_node before (Tells ask is same text) = before

-- after a line
abbrev pub line_node : {S : Type 0} {kept : Kept S} {last_life : S → ℕ} {had : HadBytes S} {given : Result (List ℕ) Lost} {answer : List ℕ}
    {old new : Seen S} → Node → Filters kept last_life had given answer old new → Node
line_node before (Is_down down same text) = before
line_node before (Does o up asks follows) = followed_node before follows
line_node before (Drops why up nothing_asked same text) = before

-- after some lines
abbrev pub node_after : {S : Type 0} (kept : Kept S) (last_life : S → ℕ) (had : HadBytes S) (limit : ℕ) (old new : NodeFilter S)
    (before : Node) (lines answers : List (List ℕ))
    → Answers (node_steps kept last_life had) limit old lines answers new → Node
node_after kept last_life had limit old new before [] [] h = before
node_after kept last_life had limit old new before [] (answer ∷ answers) h = before
node_after kept last_life had limit old new before (line ∷ lines) [] h = before
node_after kept last_life had limit old new before (line ∷ lines) (answer ∷ answers) h =
    node_after kept last_life had limit h.1 new (line_node before h.3) lines answers h.4

-- after lines that were answered together
abbrev pub batch_node : {S : Type 0} (kept : Kept S) (last_life : S → ℕ) (had : HadBytes S) (limit : ℕ) (lines : List (List ℕ)) (text : List ℕ)
    (old new : NodeFilter S) (before : Node)
    → Batch (node_steps kept last_life had) IsSettled limit lines text old new → Node
batch_node kept last_life had limit lines text old new before b = node_after kept last_life had limit old b.answered_to before lines b.answers b.answered

-- ---- the rules

-- what a process begins from is what the node of the processes has: a life that isn't below its last one, and of its
-- contents those that were found, the empty one among them. Others are lost. One that it forgot was removed, or the node counts as having it
pub record IsLeftOf {S : Type 0} (p : Processes) (origin : Origin S) : Type 0 where
  pub number : IsNumber NODES origin.me
  pub goes_on : (p.nodes origin.me.0).spent ≡ false
  pub last : (p.nodes origin.me.0).life.0 ≤ origin.last.0
  pub found : All (λ (c : List ℕ). (p.nodes origin.me.0).store (content_digest c) ≡ Some c) origin.contents.items
  pub empty : (p.nodes origin.me.0).store (content_digest []) ≡ Some []

module _ {S : Type 0} (kept : Kept S) (last_life : S → ℕ) (had : HadBytes S) where
  -- what a node's filter does with lines that come together a node of the processes may do, and what it writes that may
  -- write. While the filter is up, its state is that node
  abbrev pub ABatchIsARun : Type 0
  ABatchIsARun =
      (limit : ℕ) (lines : List (List ℕ)) (text : List ℕ) (old new : NodeFilter S) (p : Processes)
      → IsNodeOf p (seen old) → AreOfTheFarm (seen old).keys lines p.written
      → (b : Batch (node_steps kept last_life had) IsSettled limit lines text old new) →
      let messages : List Message = batch_messages kept last_life had limit lines text old new b in
      let node : Node = batch_node kept last_life had limit lines text old new (p.nodes (seen old).me.0) b in
      MayBecome (seen old).me p (with_node p (seen old).me node messages)
      × Says (seen old).keys messages text
      × ((seen new).down ≡ false → node ≡ (seen new).node)

  -- where the filter is killed amid a batch, of which it answered these lines and wrote nothing, the rules let the node
  -- come as far, and write as little. Its asks are as they were until its next life begins, since an execution may
  -- outlast its process
  abbrev pub AKillIsARun : Type 0
  AKillIsARun =
      (limit : ℕ) (lines answers : List (List ℕ)) (old new : NodeFilter S) (p : Processes)
      → IsNodeOf p (seen old) → AreOfTheFarm (seen old).keys lines p.written
      → (h : Answers (node_steps kept last_life had) limit old lines answers new) →
      let node : Node = node_after kept last_life had limit old new (p.nodes (seen old).me.0) lines answers h in
      MayBecome (seen old).me p (with_node p (seen old).me node [])

  -- a process that begins so is a node that lost the rest, and then begins its next life: its greeting says it
  abbrev pub AStartIsARun : Type 0
  AStartIsARun = (origin : Origin S) (started : Started S) (p : Processes)
      → IsLeftOf p origin → (begins : Begins kept last_life origin started)
      → MayBecome origin.me p (with_node p origin.me (seen started.filter).node begins.done.sends)
      × Says (key_in origin.keys) begins.done.sends (string_bytes started.greeting)
