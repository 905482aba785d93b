-- What a node does at each message and call, all choices made (docs/PROTOCOL.md, "What a node does").
use Rattle.std.specs.Prelude.{ℕ, zero, suc, ◌+◌, Bool, true, false, not, ◌&&◌, ◌||◌, ◌==◌, nat_lt, if◌then◌else◌, List, [], ◌∷◌, ◌++◌, length, map, filter, Option, Some, None, is_some, Result, Ok, Err}
use Rattle.std.specs.List.{list_any, list_all, flat_map}
use Rattle.farm_base.specs.Kinds.{is_tenure}
use Rattle.names.specs.Folders.{folder_eq}
use Rattle.protocol.specs.Lists.{nth, set_nth}
use Rattle.protocol.specs.Names.{Shared, slots_eq, digest_eq, NodeId, Life, Ask, Ticket, Digest, Want, FolderName, wants_shared, tenure_wants}
use Rattle.protocol.specs.Machine.{News, GrantedSlot, Confirmed, Grant, Message, ToNode, Fetches, Blob, FromCoord, hello, acquire, commit, release, written, slots_of}
pub use Rattle.farm_base.specs.declared.left.Left.{Left}
use Rattle.farm_base.specs.declared.message.ToNode.TheVariants as to_node
use Rattle.protocol.specs.Ledger.{Limits}
use Rattle.protocol.specs.World.{KeptAsk, Open, Holding, Running, Finished, Over, Node, keeps, learn_bases, learn_versions, keep, without, has_life}
use Rattle.farm_base.specs.declared.message.FromCoord.TheVariants as told
use Rattle.events.specs.declared.answer.How.TheVariants as how
use Rattle.farm_base.specs.declared.message.Why.{Why}
use Rattle.events.specs.declared.answer.NodeNote.{NodeNote}
use Rattle.events.specs.declared.answer.NodeNote.TheVariants as note
use Rattle.events.specs.declared.answer.NodeRefusal.{NodeRefusal}
use Rattle.events.specs.declared.answer.NodeRefusal.TheVariants as refusal

-- the result of a call: the node after it, what it sends, and the note
pub record NodeWork : Type 0 where
  pub node : Node
  pub sends : List Message
  pub note : NodeNote

-- what a call of a node gives
abbrev pub NodeAnswer : Type 0
NodeAnswer = Result NodeWork NodeRefusal

-- the refusal, where the test says so
abbrev pub guard : Bool → NodeRefusal → NodeAnswer → NodeAnswer
guard true reason answer = Err reason
guard false reason answer = answer

-- which node it is, and how many there are
pub record Place : Type 0 where
  pub node : NodeId
  pub nodes : ℕ

-- asks and folders

-- one of the wants has the folder
abbrev pub wants_folder : FolderName → List Want → Bool
wants_folder folder wants = list_any (λ want. folder_eq want.folder folder) wants

-- the ask is a tenure of the folder, and is present
abbrev pub is_tenure_of : FolderName → KeptAsk → Bool
is_tenure_of folder (Open wants tenure) = tenure && wants_folder folder wants
is_tenure_of folder (Holding wants grant recalled) = is_tenure grant.kind && wants_folder folder wants
is_tenure_of folder (Running wants grant recalled) = is_tenure grant.kind && wants_folder folder wants
is_tenure_of folder (Finished wants grant news) = is_tenure grant.kind && wants_folder folder wants
is_tenure_of folder (Over ending) = false

-- the ask is a tenure of the folder that is in use and not recalled
abbrev pub is_home_of : FolderName → KeptAsk → Bool
is_home_of folder (Open wants tenure) = false
is_home_of folder (Holding wants grant recalled) = false
is_home_of folder (Running wants grant recalled) = not recalled && (is_tenure grant.kind && wants_folder folder wants)
is_home_of folder (Finished wants grant news) = false
is_home_of folder (Over ending) = false

-- the ask wants the folder, and is open, granted or running
abbrev pub uses : FolderName → KeptAsk → Bool
uses folder (Open wants tenure) = wants_folder folder wants
uses folder (Holding wants grant recalled) = wants_folder folder wants
uses folder (Running wants grant recalled) = wants_folder folder wants
uses folder (Finished wants grant news) = false
uses folder (Over ending) = false

-- the tenure of each SHARED want is in use here and not recalled
abbrev pub at_home : List KeptAsk → List Want → Bool
at_home asks wants = list_all (λ want. not (wants_shared want) || list_any (is_home_of want.folder) asks) wants

-- an ask that isn't at this place uses one of the folders, `before` asks being before these
abbrev pub others_use : ℕ → List Want → List KeptAsk → ℕ → Bool
others_use place wants [] before = false
others_use place wants (kept ∷ asks) before =
    (not (before + 1 == place) && list_any (λ want. uses want.folder kept) wants)
    || others_use place wants asks (before + 1)

-- the grant is a tenure whose folder another ask uses
abbrev pub in_use : List KeptAsk → ℕ → List Want → Grant → Bool
in_use asks place wants grant = is_tenure grant.kind && others_use place wants asks 0

-- a granted ask, and whether it was recalled
pub record HeldGrant : Type 0 where
  pub wants : List Want
  pub grant : Grant
  pub recalled : Bool

-- an ask whose news were sent
pub record Sent : Type 0 where
  pub wants : List Want
  pub grant : Grant
  pub news : List News

-- of an ask and the asks after it, the first that gives something
abbrev pub first_of : {A : Type 0} → ℕ → Option A → Option (ℕ × A) → Option (ℕ × A)
first_of place (Some x) later = Some (place, x)
first_of place None later = later

-- the place of the first ask of which `test` gives something, and that, `before` asks being before these
abbrev pub first : {A : Type 0} → (KeptAsk → Option A) → List KeptAsk → ℕ → Option (ℕ × A)
first test [] before = None
first test (kept ∷ asks) before = first_of (before + 1) (test kept) (first test asks (before + 1))

-- the element, where the grant has the ticket
abbrev pub under : {A : Type 0} → Grant → Ticket → A → Option A
under grant ticket x = if grant.ticket.0 == ticket.0 then Some x else None

-- the ask that is granted under the ticket and not begun
abbrev pub held : Ticket → KeptAsk → Option HeldGrant
held ticket (Open wants tenure) = None
held ticket (Holding wants grant recalled) =
    under grant ticket (record { wants = wants; grant = grant; recalled = recalled })
held ticket (Running wants grant recalled) = None
held ticket (Finished wants grant news) = None
held ticket (Over ending) = None

-- the ask that runs under the ticket
abbrev pub running : Ticket → KeptAsk → Option HeldGrant
running ticket (Open wants tenure) = None
running ticket (Holding wants grant recalled) = None
running ticket (Running wants grant recalled) =
    under grant ticket (record { wants = wants; grant = grant; recalled = recalled })
running ticket (Finished wants grant news) = None
running ticket (Over ending) = None

-- the ask that is granted or runs under the ticket
abbrev pub held_or_running : Ticket → KeptAsk → Option HeldGrant
held_or_running ticket (Open wants tenure) = None
held_or_running ticket (Holding wants grant recalled) =
    under grant ticket (record { wants = wants; grant = grant; recalled = recalled })
held_or_running ticket (Running wants grant recalled) =
    under grant ticket (record { wants = wants; grant = grant; recalled = recalled })
held_or_running ticket (Finished wants grant news) = None
held_or_running ticket (Over ending) = None

-- the ask whose news were sent under the ticket
abbrev pub finished : Ticket → KeptAsk → Option Sent
finished ticket (Open wants tenure) = None
finished ticket (Holding wants grant recalled) = None
finished ticket (Running wants grant recalled) = None
finished ticket (Finished wants grant news) = under grant ticket (record { wants = wants; grant = grant; news = news })
finished ticket (Over ending) = None

-- the ask, where the test says so
abbrev pub recalled_if : Bool → KeptAsk → Option KeptAsk
recalled_if true kept = Some kept
recalled_if false kept = None

-- a tenure that is granted or running under the ticket and was not recalled, as it is then
abbrev pub recallable : Ticket → KeptAsk → Option KeptAsk
recallable ticket (Open wants tenure) = None
recallable ticket (Holding wants grant recalled) =
    recalled_if ((grant.ticket.0 == ticket.0) && is_tenure grant.kind && not recalled) (Holding wants grant true)
recallable ticket (Running wants grant recalled) =
    recalled_if ((grant.ticket.0 == ticket.0) && is_tenure grant.kind && not recalled) (Running wants grant true)
recallable ticket (Finished wants grant news) = None
recallable ticket (Over ending) = None

-- the ask at the place is this now
abbrev pub becomes : ℕ → KeptAsk → Node → Node
becomes place kept state = record state { asks = set_nth state.asks place kept }

-- contents

abbrev pub is_stored : Node → Digest → Bool
is_stored state digest = is_some (state.store digest)

-- the base of each slot is stored
abbrev pub all_stored : Node → List GrantedSlot → Bool
all_stored state slots = list_all (λ granted_slot. is_stored state granted_slot.digest) slots

-- the nodes of this many numbers, from `number` on
abbrev pub nodes_from : ℕ → ℕ → List NodeId
nodes_from number zero = []
nodes_from number (suc count) = record { 0 = number } ∷ nodes_from (number + 1) count

-- the nodes but this one
abbrev pub others : Place → List NodeId
others here = filter (λ node. not (node.0 == here.node.0)) (nodes_from 1 here.nodes)

-- a Fetch of the digest to each other node
abbrev pub fetches_of : Place → Digest → List Message
fetches_of here digest = map (λ node. Fetches (record { node = node; from = here.node; digest = digest })) (others here)

-- the digest is the base of a granted ask
abbrev pub is_base : Digest → KeptAsk → Bool
is_base digest (Open wants tenure) = false
is_base digest (Holding wants grant recalled) =
    list_any (λ granted_slot. digest_eq granted_slot.digest digest) grant.slots
is_base digest (Running wants grant recalled) = false
is_base digest (Finished wants grant news) = false
is_base digest (Over ending) = false

-- the ask needs the content of the digest: as a base of its grant until it has finished, and then as one of its news
abbrev pub needs : Digest → KeptAsk → Bool
needs digest (Open wants tenure) = false
needs digest (Holding wants grant recalled) =
    list_any (λ granted_slot. digest_eq granted_slot.digest digest) grant.slots
needs digest (Running wants grant recalled) =
    list_any (λ granted_slot. digest_eq granted_slot.digest digest) grant.slots
needs digest (Finished wants grant news) = list_any (λ item. digest_eq item.digest digest) news
needs digest (Over ending) = false

-- calls

-- the number of the next ask: they are counted from 1
abbrev pub next_ask : Node → Ask
next_ask state = record { 0 = length state.asks + 1 }

-- a new ask is open, and is sent
abbrev pub opens : Place → List Want → Bool → Node → NodeWork
opens here wants tenure state = record {
  node = record state { asks = state.asks ++ Open wants tenure ∷ [] };
  sends = acquire here.node state.life (next_ask state) wants tenure ∷ [];
  note = note.Asked (next_ask state);
}

-- a granted ask begins, where its base contents are stored
abbrev pub beginning : Ticket → Node → Option (ℕ × HeldGrant) → NodeAnswer
beginning ticket state None = Err refusal.NoSuchTicket
beginning ticket state (Some (place, found)) =
    guard (not (all_stored state found.grant.slots)) refusal.ContentsMissing
    (Ok (record {
      node = becomes place (Running found.wants found.grant found.recalled) state;
      sends = [];
      note = note.Begun ticket;
    }))

-- a node begins the execution of the ticket
abbrev pub begun : Ticket → Node → NodeAnswer
begun ticket state = guard state.spent refusal.LivesSpent (beginning ticket state (first (held ticket) state.asks 0))

-- the ask is over, and its lease is given back
abbrev pub gives_up : Place → ℕ → Ticket → NodeNote → Node → NodeWork
gives_up here place ticket noted state = record {
  node = becomes place (Over (how.Released ticket)) state;
  sends = release here.node state.life ticket ∷ [];
  note = noted;
}

-- a granted or running ask is given up, where no other ask uses its tenure's folder
abbrev pub aborting : Place → Node → Option (ℕ × HeldGrant) → NodeAnswer
aborting here state None = Err refusal.NoSuchTicket
aborting here state (Some (place, found)) =
    guard (in_use state.asks place found.wants found.grant) refusal.TenureInUse
    (Ok (gives_up here place found.grant.ticket (note.Aborted found.grant.ticket) state))

-- a node gives up the ask of the ticket
abbrev pub aborted : Place → Ticket → Node → NodeAnswer
aborted here ticket state =
    guard state.spent refusal.LivesSpent (aborting here state (first (held_or_running ticket) state.asks 0))

-- a restart of a node whose life isn't the greatest
abbrev pub restarted : Place → Node → NodeWork
restarted here state = record {
  node = has_life state (state.life.0 + 1);
  sends = hello here.node (record { 0 = state.life.0 + 1 }) ∷ [];
  note = note.Life (record { 0 = state.life.0 + 1 });
}

module _ (sha : List ℕ → Digest) where
  -- the news of what an execution left
  abbrev pub news_of : List Left → List News
  news_of lefts = map (λ left. record { slot = left.slot; digest = sha left.content }) lefts

  -- each content is stored. A digest that is stored already keeps its content
  abbrev pub stored : List Left → (Digest → Option (List ℕ)) → Digest → Option (List ℕ)
  stored [] store = store
  stored (left ∷ lefts) store =
      if is_some (store (sha left.content))
      then stored lefts store
      else stored lefts (keep (sha left.content) left.content store)

  -- the ask has finished: what it left is stored, and its news are sent
  abbrev pub leaves : Place → ℕ → HeldGrant → List Left → Node → NodeWork
  leaves here place found lefts state = record {
    node = record (becomes place (Finished found.wants found.grant (news_of lefts)) state) {
      store = stored lefts state.store;
    };
    sends = commit here.node state.life found.grant.ticket (news_of lefts) ∷ [];
    note = note.Finished found.grant.ticket;
  }

  -- an execution that left nothing gives its lease back
  abbrev pub leaving : Place → ℕ → HeldGrant → List Left → Node → NodeWork
  leaving here place found [] state = gives_up here place found.grant.ticket (note.Finished found.grant.ticket) state
  leaving here place found (left ∷ lefts) state = leaves here place found (left ∷ lefts) state

  -- a running ask finishes: no other ask uses its tenure's folder, and what it left is for exactly its writable slots
  abbrev pub finishing : Place → List Left → Node → Option (ℕ × HeldGrant) → NodeAnswer
  finishing here lefts state None = Err refusal.NotRunning
  finishing here lefts state (Some (place, found)) =
      guard (in_use state.asks place found.wants found.grant) refusal.TenureInUse
      (guard (not (slots_eq (slots_of (news_of lefts)) (written found.grant.slots))) refusal.WrongNews
      (Ok (leaving here place found lefts state)))

  -- a node finishes the execution of the ticket
  abbrev pub finished_with : Place → Ticket → List Left → Node → NodeAnswer
  finished_with here ticket lefts state =
      guard state.spent refusal.LivesSpent (finishing here lefts state (first (running ticket) state.asks 0))

module _ (limits : Limits) where
  -- the base has to be fetched
  abbrev pub is_missing : Node → GrantedSlot → Bool
  is_missing state granted_slot =
      not (digest_eq granted_slot.digest limits.empty) && not (is_stored state granted_slot.digest)

  -- the Fetches of the missing bases, slots in order
  unfoldable pub fetches : Place → Node → List GrantedSlot → List Message
  fetches here state slots =
      flat_map (λ granted_slot. fetches_of here granted_slot.digest) (filter (is_missing state) slots)

  -- a node asks for a lease
  abbrev pub asked : Place → List Want → Node → NodeAnswer
  asked here wants state =
      guard state.spent refusal.LivesSpent
      (guard (not (at_home state.asks wants)) refusal.NotHomeHere
      (guard (not (nat_lt (length state.asks) limits.greatest)) refusal.AsksSpent
      (Ok (opens here wants false state))))

  -- a node asks for the tenure of the SHARED folder of this name
  abbrev pub asked_tenure : Place → FolderName → Node → NodeAnswer
  asked_tenure here folder state =
      guard state.spent refusal.LivesSpent
      (guard (list_any (is_tenure_of (record folder { mode = Shared })) state.asks) refusal.TenureHere
      (guard (not (nat_lt (length state.asks) limits.greatest)) refusal.AsksSpent
      (Ok (opens here (tenure_wants folder) true state))))

  -- the content of the digest is no longer stored. The empty content always is
  abbrev pub forgotten : Digest → Node → NodeAnswer
  forgotten digest state =
      guard state.spent refusal.LivesSpent
      (guard (digest_eq digest limits.empty || not (is_stored state digest)) refusal.NoSuchContent
      (guard (list_any (needs digest) state.asks) refusal.Needed
      (Ok (record { node = record state { store = without digest state.store }; sends = []; note = note.Forgot }))))

  -- what an ask sends again
  abbrev pub again : Place → Node → Ask → KeptAsk → List Message
  again here state ask (Open wants tenure) = acquire here.node state.life ask wants tenure ∷ []
  again here state ask (Holding wants grant recalled) = fetches here state grant.slots
  again here state ask (Running wants grant recalled) = []
  again here state ask (Finished wants grant news) = commit here.node state.life grant.ticket news ∷ []
  again here state ask (Over ending) = []

  -- what these asks send again, `before` asks being before them
  abbrev pub all_again : Place → Node → List KeptAsk → ℕ → List Message
  all_again here state [] before = []
  all_again here state (kept ∷ asks) before =
      again here state (record { 0 = before + 1 }) kept ++ all_again here state asks (before + 1)

  -- a node sends again what was not answered
  abbrev pub resent : Place → Node → NodeAnswer
  resent here state =
      guard state.spent refusal.LivesSpent
      (Ok (record {
        node = state;
        sends = hello here.node state.life ∷ all_again here state state.asks 0;
        note = note.Resent;
      }))

  -- a life is left for the node
  abbrev pub may_restart : Node → Bool
  may_restart state = not state.spent && nat_lt state.life.0 limits.greatest

-- messages

-- nothing changes and nothing is sent
abbrev pub nothing : Node → NodeWork
nothing state = record { node = state; sends = []; note = note.Nothing }

-- a Grant that no ask waits for is given back, unless an ask has it already
abbrev pub gives_back : Place → Grant → Bool → Node → NodeWork
gives_back here grant true state = nothing state
gives_back here grant false state =
    record { node = state; sends = release here.node state.life grant.ticket ∷ []; note = note.GaveBack grant.ticket }

-- the news count
abbrev pub learned : Ticket → List Confirmed → Node → Option (ℕ × Sent) → NodeWork
learned ticket versions state None = nothing state
learned ticket versions state (Some (place, sent)) = record {
  node = record (becomes place (Over (how.Committed ticket versions)) state) {
    known = learn_versions versions state.known;
  };
  sends = [];
  note = note.Learned ticket;
}

-- the news do not count
abbrev pub dropped : Ticket → Node → Option (ℕ × Sent) → NodeWork
dropped ticket state None = nothing state
dropped ticket state (Some (place, sent)) =
    record { node = becomes place (Over (how.Fenced ticket)) state; sends = []; note = note.Dropped ticket }

-- an open ask is denied
abbrev pub denied : Ask → Why → Node → Option KeptAsk → NodeWork
denied ask why state None = nothing state
denied ask why state (Some (Open wants tenure)) =
    record { node = becomes ask.0 (Over (how.Denied why)) state; sends = []; note = note.Denied why }
denied ask why state (Some (Holding wants grant recalled)) = nothing state
denied ask why state (Some (Running wants grant recalled)) = nothing state
denied ask why state (Some (Finished wants grant news)) = nothing state
denied ask why state (Some (Over ending)) = nothing state

-- the tenure is recalled
abbrev pub recalled : Ticket → Node → Option (ℕ × KeptAsk) → NodeWork
recalled ticket state None = nothing state
recalled ticket state (Some (place, kept)) =
    record { node = becomes place kept state; sends = []; note = note.Recalled ticket }

-- a message of another life of the node is ignored
abbrev pub of_life : Life → Node → NodeWork → NodeWork
of_life life state work =
    if life.0 == state.life.0 then work else record { node = state; sends = []; note = note.OldLife }

-- a content that is asked for is sent, where it is stored
abbrev pub fetched : NodeId → Node → Option (List ℕ) → NodeWork
fetched from state None = nothing state
fetched from state (Some content) = record { node = state; sends = Blob from content ∷ []; note = note.SentBlob }

-- a node that is down for good answers LivesSpent to all
abbrev pub unless_spent : Node → NodeWork → NodeAnswer
unless_spent state work = guard state.spent refusal.LivesSpent (Ok work)

module _ (limits : Limits) where
  -- an open ask takes its Grant, and the missing bases are fetched
  abbrev pub takes : Place → Grant → List Want → Node → NodeWork
  takes here grant wants state = record {
    node = record (becomes grant.ask.0 (Holding wants grant false) state) {
      known = learn_bases grant.slots state.known;
    };
    sends = fetches limits here state grant.slots;
    note = note.Took grant;
  }

  -- a Grant comes: its ask is open and takes it, or it is given back
  abbrev pub granted : Place → Grant → Node → Option KeptAsk → NodeWork
  granted here grant state None = gives_back here grant false state
  granted here grant state (Some (Open wants tenure)) = takes here grant wants state
  granted here grant state (Some (Holding wants other recalled)) =
      gives_back here grant (keeps (Holding wants other recalled) grant.ticket) state
  granted here grant state (Some (Running wants other recalled)) =
      gives_back here grant (keeps (Running wants other recalled) grant.ticket) state
  granted here grant state (Some (Finished wants other news)) =
      gives_back here grant (keeps (Finished wants other news) grant.ticket) state
  granted here grant state (Some (Over ending)) = gives_back here grant false state

  -- what the coordinator says is heard
  abbrev pub heard : Place → FromCoord → Node → NodeWork
  heard here (told.Granted grant) state =
      of_life grant.life state (granted here grant state (nth state.asks grant.ask.0))
  heard here (told.Committed node life ticket versions) state =
      of_life life state (learned ticket versions state (first (finished ticket) state.asks 0))
  heard here (told.Fenced node life ticket) state =
      of_life life state (dropped ticket state (first (finished ticket) state.asks 0))
  heard here (told.Denied node life ask why) state = of_life life state (denied ask why state (nth state.asks ask.0))
  heard here (told.Recall node life ticket) state =
      of_life life state (recalled ticket state (first (recallable ticket) state.asks 0))

module _ (sha : List ℕ → Digest) where
  -- a content that is wanted and isn't stored is stored
  abbrev pub brought : List ℕ → Node → NodeWork
  brought content state =
      if not (is_stored state (sha content)) && list_any (is_base (sha content)) state.asks
      then record {
        node = record state { store = keep (sha content) content state.store };
        sends = [];
        note = note.BlobTaken;
      }
      else nothing state

  module _ (limits : Limits) where
    -- the result of a message
    abbrev pub received : Place → ToNode → Node → NodeWork
    received here (to_node.FromCoord telling) state = heard limits here telling state
    received here (to_node.Fetch fetch) state = fetched fetch.from state (state.store fetch.digest)
    received here (to_node.Blob node content) state = brought content state
