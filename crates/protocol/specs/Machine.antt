-- The coordinator's machine, which forgets nothing: every grant ever made, how each ended, and what is read
-- off these (docs/PROTOCOL.md, "The machine"). The rules are this project's own.
use Rattle.std.specs.Prelude.{◌≡◌, ◌≢◌, ℕ, ◌+◌, ◌<◌, ◌≤◌, Bool, true, false, ◌==◌, if◌then◌else◌, List, [], ◌∷◌, ◌++◌, length, map, ◌⊎◌, Option, Some, None, slice_get}
use Rattle.farm_base.specs.Kinds.{has_shared, is_tenure}
use Rattle.protocol.specs.Lists.{In, put}
use Rattle.protocol.specs.Names.{Slot, slot_eq, is_private, IsInstance, NodeId, Life, Ask, Ticket, Digest, Want, FolderName, any_shared, leased_wants, tenure_wants}
use Rattle.farm_base.specs.declared.message.Request.TheVariants as request
use Rattle.farm_base.specs.declared.message.FromCoord.TheVariants as told
pub use Rattle.farm_base.specs.declared.message.News.{News}
pub use Rattle.farm_base.specs.declared.message.GrantedSlot.{GrantedSlot}
pub use Rattle.farm_base.specs.declared.message.Confirmed.{Confirmed}
pub use Rattle.farm_base.specs.declared.message.LineVersion.{LineVersion}
pub use Rattle.farm_base.specs.declared.message.Grant.{Grant}
pub use Rattle.farm_base.specs.declared.message.Why.{Why}
pub use Rattle.farm_base.specs.declared.message.ToCoord.{ToCoord}
pub use Rattle.farm_base.specs.declared.message.FromCoord.{FromCoord}
pub use Rattle.farm_base.specs.declared.message.Fetch.{Fetch}
pub use Rattle.farm_base.specs.declared.message.ToNode.{ToNode}
pub use Rattle.farm_base.specs.declared.message.Message.{Message}
use Rattle.farm_base.specs.declared.message.Message.TheVariants as to
use Rattle.farm_base.specs.declared.message.ToNode.TheVariants as to_node
pub use Rattle.farm_base.specs.declared.lease.Parked.{Parked}

-- how a grant ended
pub data Ending : Type 0 where
  Committed : (news : List News) → Ending
  Released : Ending
  Withdrawn : Ending
  Died : Ending

-- what a ticket was given for
pub data Made : Type 0 where
  Granted : (grant : Grant) → Made
  Pruned : (ticket : Ticket) (slot : Slot) → Made

-- the ticket that was given
abbrev pub ticket_of : Made → ℕ
ticket_of (Granted grant) = grant.ticket.0
ticket_of (Pruned ticket slot) = ticket.0

-- a message to the coordinator
abbrev pub Said : ToCoord → Message
Said saying = to.ToCoord saying

-- a message of the coordinator to a node
abbrev pub Told : FromCoord → Message
Told telling = to.ToNode (to_node.FromCoord telling)

-- the two that nodes send each other
abbrev pub Fetches : Fetch → Message
Fetches fetch = to.ToNode (to_node.Fetch fetch)

abbrev pub Blob : NodeId → List ℕ → Message
Blob node content = to.ToNode (to_node.Blob node content)

-- the four things that a node says to the coordinator
abbrev pub hello : NodeId → Life → Message
hello node life = Said (record { node = node; life = life; request = request.Hello })

abbrev pub acquire : NodeId → Life → Ask → List Want → Bool → Message
acquire node life ask wants tenure =
    Said (record { node = node; life = life; request = request.Acquire ask wants tenure })

abbrev pub commit : NodeId → Life → Ticket → List News → Message
commit node life ticket news = Said (record { node = node; life = life; request = request.Commit ticket news })

abbrev pub release : NodeId → Life → Ticket → Message
release node life ticket = Said (record { node = node; life = life; request = request.Release ticket })

-- what the machine knows
pub record Machine : Type 0 where
  -- all that tickets were ever given for, the newest first
  pub made : List Made
  -- how a ticket ended
  pub ending : ℕ → Option Ending
  -- no ticket is above it
  pub last : ℕ
  -- the home of a farm that an older record names, until it is empty
  pub old_home : Option NodeId
  -- the nodes that are retired
  pub gone : ℕ → Bool
  -- the greatest life seen of a node, 0 where none was
  pub lives : ℕ → ℕ
  -- parked asks, the first first
  pub parked : List Parked

-- the grant has the slot
abbrev pub Has : Grant → Slot → Type 0
Has grant slot = (granted : GrantedSlot) × In granted grant.slots × (granted.slot ≡ slot)

-- the grant was made and has not ended
abbrev pub Live : Machine → Grant → Type 0
Live machine grant = In (Granted grant) machine.made × (machine.ending grant.ticket.0 ≡ None)

-- a live grant has the slot
abbrev pub Leased : Machine → Slot → Type 0
Leased machine slot = (grant : Grant) × Live machine grant × Has grant slot

-- a PRIVATE slot is retired where a grant that has it ended Withdrawn
abbrev pub Retired : Machine → Slot → Type 0
Retired machine slot =
    (is_private slot.folder.mode ≡ true)
    × ((grant : Grant)
    × In (Granted grant) machine.made
    × (machine.ending grant.ticket.0 ≡ Some Withdrawn)
    × Has grant slot)

-- the slot may be granted
abbrev pub Free : Machine → Slot → Type 0
Free machine slot = (Leased machine slot → ⊥) × (Retired machine slot → ⊥)

-- the news for a slot
abbrev pub digest_for : Slot → List News → Option Digest
digest_for slot [] = None
digest_for slot (item ∷ news) = if slot_eq item.slot slot then Some item.digest else digest_for slot news

-- a version under the ticket, where there is a digest
abbrev pub version_of : Ticket → Option Digest → List LineVersion
version_of ticket None = []
version_of ticket (Some digest) = record { ticket = ticket; digest = digest } ∷ []

-- what the end of a grant adds to a slot's line
abbrev pub version_at : Slot → Ticket → Option Ending → List LineVersion
version_at slot ticket None = []
version_at slot ticket (Some (Committed news)) = version_of ticket (digest_for slot news)
version_at slot ticket (Some Released) = []
version_at slot ticket (Some Withdrawn) = []
version_at slot ticket (Some Died) = []

-- what a ticket adds to a slot's line
abbrev pub added : Digest → Slot → (ℕ → Option Ending) → Made → List LineVersion
added empty slot endings (Granted grant) = version_at slot grant.ticket (endings grant.ticket.0)
added empty slot endings (Pruned ticket pruned) =
    if slot_eq pruned slot then record { ticket = ticket; digest = empty } ∷ [] else []

-- the line of a slot: the news for it of committed grants, and its prunes, by rising ticket
abbrev pub line_of : Digest → Slot → (ℕ → Option Ending) → List Made → List LineVersion
line_of empty slot endings [] = []
line_of empty slot endings (given ∷ made) = line_of empty slot endings made ++ added empty slot endings given

-- the line of a slot, `empty` being the digest of the empty content
abbrev pub line : Digest → Machine → Slot → List LineVersion
line empty machine slot = line_of empty slot machine.ending machine.made

-- the version of this number has this digest on the line. Version 0 is the empty content
abbrev pub Names : Digest → List LineVersion → ℕ → Digest → Type 0
Names empty versions number digest =
    ((number ≡ 0) × (digest ≡ empty))
    ⊎ ((index : ℕ) × (version : LineVersion)
    × (number ≡ index + 1)
    × (slice_get versions index ≡ Some version)
    × (version.digest ≡ digest))

-- the slots that a grant may write
abbrev pub written : List GrantedSlot → List Slot
written [] = []
written (granted ∷ slots) = if granted.writable then granted.slot ∷ written slots else written slots

-- the slots of some news
abbrev pub slots_of : List News → List Slot
slots_of news = map (λ item. item.slot) news

-- what a slot of a grant was wanted as
abbrev pub want_of : GrantedSlot → Want
want_of granted = record { folder = granted.slot.folder; writable = granted.writable }

-- the base is the last version of its line
abbrev pub Based : Digest → Machine → GrantedSlot → Type 0
Based empty machine granted =
    (granted.base ≡ length (line empty machine granted.slot))
    × Names empty (line empty machine granted.slot) granted.base granted.digest

-- the grant answers an ask with these wants
pub record AnswersAsk (grant : Grant) (wants : List Want) : Type 0 where
  pub shared : has_shared grant.kind ≡ any_shared wants
  -- its slots are those of the wants, in their order
  pub slots : map want_of grant.slots ≡ leased_wants (is_tenure grant.kind) wants
  -- a PRIVATE folder's instances are 1 to 4,096, every other's is 0
  pub instances : (granted : GrantedSlot)
      → In granted grant.slots
      → IsInstance granted.slot.folder.mode granted.slot.instance
  -- a tenure is of one SHARED folder, writable
  pub tenure : is_tenure grant.kind ≡ true → (folder : FolderName) × (wants ≡ tenure_wants folder)

-- both answer one ask
abbrev pub SameAsk : Grant → Grant → Type 0
SameAsk grant other = (grant.node ≡ other.node) × (grant.life ≡ other.life) × (grant.ask ≡ other.ask)

-- a message of this life of this node was sent
abbrev pub WasHeard : List Message → NodeId → Life → Type 0
WasHeard pool node life = (saying : ToCoord) × In (Said saying) pool × (saying.node ≡ node) × (saying.life ≡ life)

-- a live grant may end so, where these messages were ever sent
abbrev pub MayEnd : List Message → Machine → Grant → Ending → Type 0
MayEnd pool machine grant (Committed news) =
    In (commit grant.node grant.life grant.ticket news) pool × (slots_of news ≡ written grant.slots) × (news ≢ [])
MayEnd pool machine grant Released = In (release grant.node grant.life grant.ticket) pool
MayEnd pool machine grant Withdrawn = is_tenure grant.kind ≡ false
MayEnd pool machine grant Died =
    (life : Life) × WasHeard pool grant.node life × (grant.life.0 < life.0) × (machine.gone grant.node.0 ≡ false)

-- clears the old home if it is this node
abbrev pub cleared : NodeId → Option NodeId → Option NodeId
cleared node None = None
cleared node (Some home) = if home.0 == node.0 then None else Some home

-- the first list has the second, with some elements more
pub data HasPart {A : Type 0} : List A → List A → Type 0 where
  Ends_part : HasPart [] []
  Keeps : (x : A) (xs ys : List A) → HasPart xs ys → HasPart (x ∷ xs) (x ∷ ys)
  Leaves : (x : A) (xs ys : List A) → HasPart xs ys → HasPart (x ∷ xs) ys

-- one step of the machine, where these messages were ever sent
pub data Step (empty : Digest) (pool : List Message) (machine : Machine) : Machine → Type 0 where
  -- an ask that was sent is granted, under a ticket above all others
  Grants : (grant : Grant) (wants : List Want)
      → In (acquire grant.node grant.life grant.ask wants (is_tenure grant.kind)) pool
      → AnswersAsk grant wants
      → (machine.gone grant.node.0 ≡ false)
      → ((other : Grant) → Live machine other → SameAsk grant other → ⊥)
      -- a tenure waits until the old home is cleared, or is the old home's
      → (is_tenure grant.kind ≡ true → (home : NodeId) → machine.old_home ≡ Some home → home ≡ grant.node)
      → machine.last < grant.ticket.0
      → ((granted : GrantedSlot) → In granted grant.slots → Free machine granted.slot × Based empty machine granted)
      → Step empty pool machine (record machine { made = Granted grant ∷ machine.made; last = grant.ticket.0 })
  -- a live grant ends
  Ends : (grant : Grant) (how : Ending)
      → Live machine grant
      → MayEnd pool machine grant how
      → Step empty pool machine (record machine { ending = put grant.ticket.0 (Some how) machine.ending })
  -- the empty content is added to the line of a slot that no live grant has
  Prunes : (ticket : Ticket) (slot : Slot)
      → machine.last < ticket.0
      → (Leased machine slot → ⊥)
      → (line empty machine slot ≢ [])
      → Step empty pool machine (record machine { made = Pruned ticket slot ∷ machine.made; last = ticket.0 })
  -- a newer life is kept once nothing of the node's older lives is left
  Sees : (node : NodeId) (life : Life)
      → WasHeard pool node life
      → (machine.gone node.0 ≡ false)
      → machine.lives node.0 < life.0
      → ((grant : Grant) → Live machine grant → grant.node ≡ node → grant.life.0 < life.0 → ⊥)
      → ((parked : Parked) → In parked machine.parked → parked.node ≡ node → parked.life.0 < life.0 → ⊥)
      → Step empty pool machine
      (record machine { lives = put node.0 life.0 machine.lives; old_home = cleared node machine.old_home })
  -- a node retires once no lease and no parked ask of it is left
  Retires : (node : NodeId)
      → (machine.gone node.0 ≡ false)
      → (machine.old_home ≢ Some node)
      → ((grant : Grant) → Live machine grant → grant.node ≢ node)
      → ((parked : Parked) → In parked machine.parked → parked.node ≢ node)
      → Step empty pool machine (record machine { gone = put node.0 true machine.gone })
  -- an ask that was sent and has no live grant is parked
  Parks : (parked : Parked)
      → In (acquire parked.node parked.life parked.ask parked.wants parked.tenure) pool
      → ((grant : Grant) → Live machine grant
      → (grant.node ≡ parked.node) × (grant.life ≡ parked.life) × (grant.ask ≡ parked.ask)
      → ⊥)
      → Step empty pool machine (record machine { parked = machine.parked ++ parked ∷ [] })
  -- some parked asks are no longer parked
  Unparks : (queue : List Parked)
      → HasPart machine.parked queue
      → Step empty pool machine (record machine { parked = queue })
  -- at a restart the last ticket rises to the saved ceiling
  Raises : (ceiling : ℕ)
      → machine.last ≤ ceiling
      → Step empty pool machine (record machine { last = ceiling })

-- any number of steps, these messages having been sent
pub data Steps (empty : Digest) (pool : List Message) : Machine → Machine → Type 0 where
  No_step : (machine : Machine) → Steps empty pool machine machine
  One_more : (machine middle later : Machine)
      → Steps empty pool machine middle
      → Step empty pool middle later
      → Steps empty pool machine later

-- a version that a confirmation names stands on its line under the ticket
abbrev pub Stands : Digest → Machine → Ticket → Confirmed → Type 0
Stands empty machine ticket version =
    (index : ℕ)
    × (version.number ≡ index + 1)
    × (slice_get (line empty machine version.slot) index ≡ Some (record { ticket = ticket; digest = version.digest }))

-- what the machine may say, as it stands
pub data Says (empty : Digest) (pool : List Message) (machine : Machine) : FromCoord → Type 0 where
  Says_granted : (grant : Grant) → Live machine grant → Says empty pool machine (told.Granted grant)
  -- to whoever sent the Commit. Where the ticket isn't its own it learns of versions that stand, and ends nothing
  Says_committed : (node : NodeId) (life : Life) (ticket : Ticket) (news : List News) (versions : List Confirmed)
      → In (commit node life ticket news) pool
      → ((version : Confirmed) → In version versions → Stands empty machine ticket version)
      → (versions ≢ [])
      → Says empty pool machine (told.Committed node life ticket versions)
  Says_fenced : (node : NodeId) (life : Life) (ticket : Ticket) (news : List News)
      → In (commit node life ticket news) pool
      → ((grant : Grant) → Live machine grant
      → (grant.ticket ≡ ticket)
      → (grant.node ≡ node)
      → (grant.life ≡ life)
      → (slots_of news ≡ written grant.slots)
      → (news ≢ [])
      → ⊥)
      -- unless the news name slots, and the ticket is on the line of each
      → ((news ≢ [])
      → ((item : News) → In item news
      → (version : LineVersion) × In version (line empty machine item.slot) × (version.ticket ≡ ticket))
      → ⊥)
      → Says empty pool machine (told.Fenced node life ticket)
  Says_denied : (node : NodeId) (life : Life) (ask : Ask) (why : Why) (wants : List Want) (tenure : Bool)
      → In (acquire node life ask wants tenure) pool
      → Says empty pool machine (told.Denied node life ask why)
  Says_recall : (grant : Grant)
      → Live machine grant
      → (is_tenure grant.kind ≡ true)
      → Says empty pool machine (told.Recall grant.node grant.life grant.ticket)
