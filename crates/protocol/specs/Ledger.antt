-- The ledger: what the coordinator keeps, and what it does with it at each message and call, all choices made
-- (docs/PROTOCOL.md, "What the coordinator does"). The rules are this project's own.
use Rattle.std.specs.Prelude.{ℕ, zero, suc, ◌+◌, min, Bool, true, false, not, ◌&&◌, ◌||◌, ◌==◌, nat_lt, if◌then◌else◌, List, [], ◌∷◌, ◌++◌, length, map, filter, Option, Some, None, is_some, Result, Ok, Err}
use Rattle.std.specs.List.{list_any, find}
use Rattle.protocol.specs.Lists.{put, is_nil}
use Rattle.protocol.specs.Names.{Slot, slot_eq, slots_eq, is_private, only_slot, NodeId, Life, Ask, Ticket, Digest, Want, FolderName, any_shared, leased_wants}
use Rattle.protocol.specs.Machine.{News, GrantedSlot, Confirmed, LineVersion, Grant, FromCoord, ToCoord, Parked, version_of, digest_for, slots_of, cleared}
use Rattle.farm_base.specs.Kinds.{kind_of}
use Rattle.farm_base.specs.declared.message.Request.{Request}
use Rattle.farm_base.specs.declared.message.Request.TheVariants.{Hello, Acquire, Commit, Release}
use Rattle.farm_base.specs.declared.message.FromCoord.TheVariants as told
use Rattle.farm_base.specs.declared.message.Why.{Why}
use Rattle.farm_base.specs.declared.message.Why.TheVariants.{InstancesSpent, TicketsSpent}
pub use Rattle.farm_base.specs.declared.lease.Lease.{Lease}
use Rattle.events.specs.declared.answer.CoordNote.{CoordNote}
use Rattle.events.specs.declared.answer.CoordNote.TheVariants as note
use Rattle.events.specs.declared.answer.CoordRefusal.{CoordRefusal}
use Rattle.events.specs.declared.answer.CoordRefusal.TheVariants as refusal
pub use Rattle.events.specs.declared.answer.Decision.{Decision}
pub use Rattle.events.specs.declared.answer.Decision.TheVariants.{Give, Deny, Wait}

-- the numbers that bound a farm, and the digest of the empty content
pub record Limits : Type 0 where
  pub empty : Digest
  -- how many instances a PRIVATE folder has
  pub instances : ℕ
  -- the greatest ticket, life and ask
  pub greatest : ℕ

-- what the coordinator knows of its farm
pub record Ledger : Type 0 where
  -- the live leases, the oldest first
  pub live : List Lease
  -- the PRIVATE slots that are never granted again
  pub retired : Slot → Bool
  -- the nodes that are retired
  pub gone : ℕ → Bool
  pub line : Slot → List LineVersion
  -- the ticket position, and the ceiling that is saved of it
  pub last : ℕ
  pub ceiling : ℕ
  pub old_home : Option NodeId
  pub lives : ℕ → ℕ
  -- the parked asks, the first first
  pub parked : List Parked

-- the coordinator of a farm where nothing happened
abbrev pub opening : Ledger
opening = record {
  live = [];
  retired = λ slot. false;
  gone = λ node. false;
  line = λ slot. [];
  last = 0;
  ceiling = 0;
  old_home = None;
  lives = λ node. 0;
  parked = [];
}

-- the result of an event: the ledger after it, what is sent, whether the record changed, and the note
pub record Work : Type 0 where
  pub ledger : Ledger
  pub sends : List FromCoord
  pub changed : Bool
  pub note : CoordNote

-- no work is done yet
abbrev pub begin_work : Ledger → Work
begin_work ledger = record { ledger = ledger; sends = []; changed = false; note = note.Nothing }

-- one more message is sent
abbrev pub says : FromCoord → Work → Work
says telling work = record work { sends = work.sends ++ telling ∷ [] }

-- what happened is noted
abbrev pub notes : CoordNote → Work → Work
notes noted work = record work { note = noted }

-- leases and slots

-- the slot is one of these
abbrev pub has_slot : List (Slot × Bool) → Slot → Bool
has_slot slots slot = list_any (λ pair. slot_eq pair.0 slot) slots

-- one of the leases has the slot
abbrev pub some_lease : List Lease → Slot → Bool
some_lease leases slot = list_any (λ lease. has_slot lease.slots slot) leases

abbrev pub is_leased : Ledger → Slot → Bool
is_leased ledger slot = some_lease ledger.live slot

-- the slot is neither leased nor retired
abbrev pub is_free : Ledger → Slot → Bool
is_free ledger slot = not (some_lease ledger.live slot) && not (ledger.retired slot)

-- the lowest free instance of a folder among this many from `instance` on; 0 where there is none
unfoldable pub lowest : (Slot → Bool) → FolderName → ℕ → ℕ → ℕ
lowest free folder instance zero = 0
lowest free folder instance (suc count) =
    if free (record { folder = folder; instance = instance }) then instance else lowest free folder (instance + 1) count

-- the instance that a want gets. The last Bool says whether its folder is PRIVATE
abbrev pub instance_for : ℕ → (Slot → Bool) → FolderName → Bool → ℕ
instance_for instances free folder true = lowest free folder 1 instances
instance_for instances free folder false = 0

-- the slot that a want gets: the lowest free instance of a PRIVATE folder, any other folder's one slot
abbrev pub slot_for : ℕ → (Slot → Bool) → Want → Slot
slot_for instances free want =
    record { folder = want.folder; instance = instance_for instances free want.folder (is_private want.folder.mode) }

-- a PRIVATE folder has no instance left
abbrev pub all_taken : ℕ → (Slot → Bool) → List Want → Bool
all_taken instances free wants =
    list_any (λ want. is_private want.folder.mode && (lowest free want.folder 1 instances == 0)) wants

-- the one slot of another folder is leased
abbrev pub busy : (Slot → Bool) → List Want → Bool
busy leased wants = list_any (λ want. not (is_private want.folder.mode) && leased (only_slot want.folder)) wants

-- a lease that the record has: one with a PRIVATE slot, or a tenure
abbrev pub is_saved : Lease → Bool
is_saved lease = lease.tenure || list_any (λ pair. is_private pair.0.folder.mode) lease.slots

-- the slots that a lease may write
abbrev pub writable_slots : List (Slot × Bool) → List Slot
writable_slots [] = []
writable_slots (pair ∷ pairs) = if pair.1 then pair.0 ∷ writable_slots pairs else writable_slots pairs

-- the digest of the line's last version. A line with none has the empty content
abbrev pub last_digest : Digest → List LineVersion → Digest
last_digest empty [] = empty
last_digest empty (version ∷ []) = version.digest
last_digest empty (version ∷ next ∷ versions) = last_digest empty (next ∷ versions)

-- a slot as its Grant has it: with the last version of its line
abbrev pub granted_slot : Digest → (Slot → List LineVersion) → Slot × Bool → GrantedSlot
granted_slot empty line pair =
    record { slot = pair.0; writable = pair.1; base = length (line pair.0); digest = last_digest empty (line pair.0) }

-- the Grant of a lease. The base of each slot is its line's last version, since a leased slot's line stands still
abbrev pub grant_of : Digest → (Slot → List LineVersion) → Lease → Grant
grant_of empty line lease = record {
  ticket = lease.ticket;
  node = lease.node;
  life = lease.life;
  ask = lease.ask;
  kind = kind_of lease.shared lease.tenure;
  slots = map (granted_slot empty line) lease.slots;
}

-- deciding an ask

-- the first that applies: another node is the old home; no instance is left; a slot is leased; no ticket is left
abbrev pub pick : Bool → Bool → Bool → Bool → Decision
pick true no_instance taken no_ticket = Wait
pick false true taken no_ticket = Deny InstancesSpent
pick false false true no_ticket = Wait
pick false false false true = Deny TicketsSpent
pick false false false false = Give

-- the old home is a node other than this one
abbrev pub another : Option NodeId → NodeId → Bool
another None node = false
another (Some home) node = not (home.0 == node.0)

-- a tenure waits while another node is the old home
abbrev pub elsewhere : Ledger → Parked → Bool
elsewhere ledger parked = parked.tenure && another ledger.old_home parked.node

module _ (limits : Limits) where
  -- what is done with the ask now
  unfoldable pub decision : Ledger → Parked → Decision
  decision ledger parked =
      pick
      (elsewhere ledger parked)
      (all_taken limits.instances (is_free ledger) (leased_wants parked.tenure parked.wants))
      (busy (is_leased ledger) (leased_wants parked.tenure parked.wants))
      (not (nat_lt ledger.last limits.greatest))

  -- the lease that the ask gets, under the next ticket
  abbrev pub lease_for : Ledger → Parked → Lease
  lease_for ledger parked = record {
    ticket = record { 0 = ledger.last + 1 };
    node = parked.node;
    life = parked.life;
    ask = parked.ask;
    shared = any_shared parked.wants;
    tenure = parked.tenure;
    slots = map (λ want. (slot_for limits.instances (is_free ledger) want, want.writable))
        (leased_wants parked.tenure parked.wants);
  }

  -- the ceiling that the next ticket needs: tickets are saved in blocks of 64
  abbrev pub raised : Ledger → ℕ
  raised ledger = if ledger.last == ledger.ceiling then min (ledger.ceiling + 64) limits.greatest else ledger.ceiling

  -- the lease is live, its ticket is the last, and its Grant is sent
  abbrev pub granting : Lease → Work → Work
  granting lease work = record work {
    ledger = record work.ledger {
      live = work.ledger.live ++ lease ∷ [];
      last = work.ledger.last + 1;
      ceiling = raised work.ledger;
    };
    sends = work.sends ++ told.Granted (grant_of limits.empty work.ledger.line lease) ∷ [];
    changed = work.changed || (work.ledger.last == work.ledger.ceiling) || is_saved lease;
  }

  -- the ask is granted
  unfoldable pub gives : Parked → Work → Work
  gives parked work = granting (lease_for work.ledger parked) work

-- the node is told that its ask is denied
abbrev pub denies : Why → Parked → Work → Work
denies why parked work = says (told.Denied parked.node parked.life parked.ask why) work

module _ (limits : Limits) where
  -- the decision is carried out. An ask that waits changes nothing
  abbrev pub carried_out : Decision → Parked → Work → Work
  carried_out Give parked work = gives limits parked work
  carried_out (Deny why) parked work = denies why parked work
  carried_out Wait parked work = work

-- the ask stays parked
abbrev pub waits : Decision → Bool
waits Give = false
waits (Deny why) = false
waits Wait = true

-- Acquire

-- these asks are parked
abbrev pub parks : List Parked → Work → Work
parks queue work = record work { ledger = record work.ledger { parked = queue } }

-- the lease answers this ask of this life of this node
abbrev pub is_of : NodeId → Life → Ask → Lease → Bool
is_of node life ask lease = (lease.node.0 == node.0) && (lease.life.0 == life.0) && (lease.ask.0 == ask.0)

-- the lease of an ask
abbrev pub lease_of : List Lease → NodeId → Life → Ask → Option Lease
lease_of leases node life ask = find (is_of node life ask) leases

-- this ask of this life of this node is parked
abbrev pub is_parked : List Parked → NodeId → Life → Ask → Bool
is_parked queue node life ask =
    list_any (λ parked. (parked.node.0 == node.0) && (parked.life.0 == life.0) && (parked.ask.0 == ask.0)) queue

-- the lease has a slot that the ask wants
abbrev pub holds_wanted : Parked → Lease → Bool
holds_wanted parked lease =
    list_any (λ want. has_slot lease.slots (only_slot want.folder)) (leased_wants parked.tenure parked.wants)

-- the lease's node is told to give it up
abbrev pub recall : Option Lease → Work → Work
recall None work = work
recall (Some lease) work = says (told.Recall lease.node lease.life lease.ticket) work

-- who holds the tenure that is asked for is told to give it up
abbrev pub recalls : Bool → Parked → Work → Work
recalls true parked work = recall (find (holds_wanted parked) work.ledger.live) work
recalls false parked work = work

module _ (limits : Limits) where
  -- what comes of a new ask
  abbrev pub decided : Decision → Parked → Work → Work
  decided Give parked work =
      notes (note.Granted (grant_of limits.empty work.ledger.line (lease_for limits work.ledger parked)))
      (gives limits parked work)
  decided (Deny why) parked work = notes (note.Denied why) (denies why parked work)
  decided Wait parked work =
      notes note.Parked
      (parks (work.ledger.parked ++ parked ∷ [])
      (recalls (parked.tenure && not (elsewhere work.ledger parked)) parked work))

-- Commit and Release

abbrev pub has_ticket : Ticket → Lease → Bool
has_ticket ticket lease = lease.ticket.0 == ticket.0

-- the lease of a ticket
abbrev pub lease_under : List Lease → Ticket → Option Lease
lease_under leases ticket = find (has_ticket ticket) leases

-- the leases but the one of the ticket
abbrev pub without : Ticket → List Lease → List Lease
without ticket leases = filter (λ lease. not (has_ticket ticket lease)) leases

-- the lease ends, and nothing else changes
abbrev pub ends : Lease → Work → Work
ends lease work = record work {
  ledger = record work.ledger { live = without lease.ticket work.ledger.live };
  changed = work.changed || is_saved lease;
}

-- the lease ends, and each line gets its version
abbrev pub commits : Ticket → List News → Work → Work
commits ticket news work = record work {
  ledger = record work.ledger {
    live = without ticket work.ledger.live;
    line = λ slot. work.ledger.line slot ++ version_of ticket (digest_for slot news);
  };
  changed = true;
}

-- the number and digest of a ticket's version on a line, this many others being before
abbrev pub place_on_line : Ticket → List LineVersion → ℕ → Option (ℕ × Digest)
place_on_line ticket [] before = None
place_on_line ticket (version ∷ versions) before =
    if version.ticket.0 == ticket.0
    then Some (before + 1, version.digest)
    else place_on_line ticket versions (before + 1)

-- what a confirmation says of the slot, where the ticket has a version on its line
abbrev pub confirmed : Slot → Option (ℕ × Digest) → List Confirmed
confirmed slot None = []
confirmed slot (Some found) = record { slot = slot; number = found.0; digest = found.1 } ∷ []

-- the versions that the ticket has on the lines of these slots
abbrev pub versions_of : (Slot → List LineVersion) → Ticket → List News → List Confirmed
versions_of line ticket [] = []
versions_of line ticket (item ∷ news) =
    confirmed item.slot (place_on_line ticket (line item.slot) 0) ++ versions_of line ticket news

-- the ticket is on the line of each of these slots
abbrev pub on_all : (Slot → List LineVersion) → Ticket → List News → Bool
on_all line ticket [] = true
on_all line ticket (item ∷ news) = is_some (place_on_line ticket (line item.slot) 0) && on_all line ticket news

-- the lease is of this life of this node
abbrev pub is_its : NodeId → Life → Lease → Bool
is_its node life lease = (lease.node.0 == node.0) && (lease.life.0 == life.0)

-- the lease is of this node and life, and the slots are one or more and exactly its writable ones
abbrev pub may_commit : NodeId → Life → List News → Option Lease → Bool
may_commit node life news None = false
may_commit node life news (Some lease) =
    is_its node life lease && slots_eq (slots_of news) (writable_slots lease.slots) && not (is_nil news)

-- the lease is live, and of this node and life
abbrev pub may_release : NodeId → Life → Option Lease → Bool
may_release node life None = false
may_release node life (Some lease) = is_its node life lease

-- the node is told that its news count, and as which versions
abbrev pub confirms : NodeId → Life → Ticket → List News → Work → Work
confirms node life ticket news work =
    says (told.Committed node life ticket (versions_of work.ledger.line ticket news)) work

-- news that end no lease: they count where all their versions stand on the lines already
abbrev pub answered : Bool → NodeId → Life → Ticket → List News → Work → Work
answered true node life ticket news work = notes (note.CommittedBefore ticket) (confirms node life ticket news work)
answered false node life ticket news work = notes (note.Fenced ticket) (says (told.Fenced node life ticket) work)

-- a newer life

-- the lease is of an older life of the node
abbrev pub is_older : NodeId → Life → Lease → Bool
is_older node life lease = (lease.node.0 == node.0) && nat_lt lease.life.0 life.0

-- the ask is of an older life of the node
abbrev pub is_older_ask : NodeId → Life → Parked → Bool
is_older_ask node life parked = (parked.node.0 == node.0) && nat_lt parked.life.0 life.0

-- the life is kept; the leases and asks of the node's older lives go, and an old home that is this node
abbrev pub sees : NodeId → Life → Work → Work
sees node life work = record work {
  ledger = record work.ledger {
    live = filter (λ lease. not (is_older node life lease)) work.ledger.live;
    lives = put node.0 life.0 work.ledger.lives;
    parked = filter (λ parked. not (is_older_ask node life parked)) work.ledger.parked;
    old_home = cleared node work.ledger.old_home;
  };
  changed = true;
}

-- the old home is this node
abbrev pub is_home : NodeId → Option NodeId → Bool
is_home node None = false
is_home node (Some home) = home.0 == node.0

-- the coordinator's own calls

-- the PRIVATE slots of a withdrawn lease are retired
abbrev pub retires : Lease → (Slot → Bool) → Slot → Bool
retires lease retired slot = (is_private slot.folder.mode && has_slot lease.slots slot) || retired slot

-- the lease ends, and its PRIVATE slots are retired
abbrev pub withdraws : Lease → Work → Work
withdraws lease work = record work {
  ledger = record work.ledger {
    live = without lease.ticket work.ledger.live;
    retired = retires lease work.ledger.retired;
  };
  changed = work.changed || is_saved lease;
}

abbrev pub is_at : NodeId → Lease → Bool
is_at node lease = lease.node.0 == node.0

-- the PRIVATE slots of these leases are retired too
abbrev pub retire_all : List Lease → (Slot → Bool) → Slot → Bool
retire_all leases retired slot = (is_private slot.folder.mode && some_lease leases slot) || retired slot

-- the node is retired, and nothing of it is left
abbrev pub goes : NodeId → Work → Work
goes node work = record work {
  ledger = record work.ledger {
    live = filter (λ lease. not (is_at node lease)) work.ledger.live;
    retired = retire_all (filter (is_at node) work.ledger.live) work.ledger.retired;
    gone = put node.0 true work.ledger.gone;
    parked = filter (λ parked. not (parked.node.0 == node.0)) work.ledger.parked;
  };
  changed = true;
}

-- a parked ask is for the tenure that the lease is
abbrev pub is_awaited : List Parked → Lease → Bool
is_awaited queue lease = lease.tenure && list_any (λ parked. parked.tenure && holds_wanted parked lease) queue

-- what the coordinator does

module _ (limits : Limits) where
  -- the Grant of the lease, as the lines stand
  abbrev its_grant : Work → Lease → Grant
  its_grant work lease = grant_of limits.empty work.ledger.line lease

  -- trying the parked asks again

  -- a parked ask is tried
  unfoldable pub tried : Parked → Work → Work
  tried parked work = carried_out limits (decision limits work.ledger parked) parked work

  -- a parked ask that is tried stays
  unfoldable pub stays : Parked → Work → Bool
  stays parked work = waits (decision limits work.ledger parked)

  -- each of the asks in order of arrival
  abbrev pub try_all : List Parked → Work → Work
  try_all [] work = work
  try_all (parked ∷ queue) work = try_all queue (tried parked work)

  -- those of them that stay
  abbrev pub waiting : List Parked → Work → List Parked
  waiting [] work = []
  waiting (parked ∷ queue) work =
      if stays parked work
      then parked ∷ waiting queue (tried parked work)
      else waiting queue (tried parked work)

  -- all parked asks are tried, and those that stay are parked
  unfoldable pub retried : Work → Work
  retried work = parks (waiting work.ledger.parked work) (try_all work.ledger.parked work)

  -- at a message

  -- an ask comes: its lease is live, or it is parked already, or it is new
  abbrev pub acquiring : Option Lease → Bool → Parked → Work → Work
  acquiring (Some lease) queued parked work =
      notes (note.GrantedBefore (its_grant work lease)) (says (told.Granted (its_grant work lease)) work)
  acquiring None true parked work = notes note.Parked work
  acquiring None false parked work = decided limits (decision limits work.ledger parked) parked work

  -- news come: the lease that they are for ends, where they may end it
  abbrev pub committing : Bool → NodeId → Life → Ticket → List News → Work → Work
  committing true node life ticket news work =
      notes (note.Committed ticket) (retried (confirms node life ticket news (commits ticket news work)))
  committing false node life ticket news work =
      answered (not (is_nil news) && on_all work.ledger.line ticket news) node life ticket news work

  -- a lease is given back: it ends, where it may
  abbrev pub released : Bool → Ticket → Option Lease → Work → Work
  released allowed ticket None work = work
  released false ticket (Some lease) work = work
  released true ticket (Some lease) work = notes (note.Released ticket) (retried (ends lease work))

  -- a message of the life that is now the greatest
  abbrev pub answering : NodeId → Life → Request → Work → Work
  answering node life Hello work = work
  answering node life (Acquire ask wants tenure) work =
      acquiring (lease_of work.ledger.live node life ask) (is_parked work.ledger.parked node life ask)
      (record { node = node; life = life; ask = ask; wants = wants; tenure = tenure }) work
  answering node life (Commit ticket news) work =
      committing (may_commit node life news (lease_under work.ledger.live ticket)) node life ticket news work
  answering node life (Release ticket) work =
      released (may_release node life (lease_under work.ledger.live ticket)) ticket
      (lease_under work.ledger.live ticket) work

  -- where a lease ended or the old home was cleared the parked asks are tried
  unfoldable pub newer_life : NodeId → Life → Work → Work
  newer_life node life work =
      if list_any (is_older node life) work.ledger.live || is_home node work.ledger.old_home
      then retried (sees node life work)
      else sees node life work

  -- a message of this life of this node: is the node retired, then its life, then what it says
  unfoldable pub handled : ToCoord → Work → Work
  handled saying work =
      if work.ledger.gone saying.node.0 then notes note.NodeRetired work
      else (if nat_lt saying.life.0 (work.ledger.lives saying.node.0) then notes note.OldLife work
      else (if nat_lt (work.ledger.lives saying.node.0) saying.life.0
      then answering saying.node saying.life saying.request (newer_life saying.node saying.life work)
      else answering saying.node saying.life saying.request work))

  -- at a call of its own

  -- a lease is withdrawn, unless it is a tenure
  abbrev pub withdrawing : Option Lease → Work → Result Work CoordRefusal
  withdrawing None work = Err refusal.NotLive
  withdrawing (Some lease) work =
      if lease.tenure then Err refusal.Tenure
      else Ok (notes (note.Withdrawn lease.ticket) (retried (withdraws lease work)))

  -- the lease of the ticket is withdrawn
  abbrev pub withdrawn : Ticket → Work → Result Work CoordRefusal
  withdrawn ticket work = withdrawing (lease_under work.ledger.live ticket) work

  -- a node is retired, unless it holds a tenure or is the old home
  abbrev pub retired : NodeId → Work → Result Work CoordRefusal
  retired node work =
      if work.ledger.gone node.0 then Err refusal.NodeRetired
      else (if list_any (λ lease. is_at node lease && lease.tenure) work.ledger.live
      || is_home node work.ledger.old_home
      then Err refusal.TenureHeld
      else Ok (notes (note.Retired node)
      (if list_any (is_at node) work.ledger.live then retried (goes node work) else goes node work)))

  -- the empty content, under a new ticket
  abbrev pub prunes : Slot → Work → Work
  prunes slot work = record work {
    ledger = record work.ledger {
      line = λ other.
          if slot_eq slot other
          then work.ledger.line other
          ++ record { ticket = record { 0 = work.ledger.last + 1 }; digest = limits.empty } ∷ []
          else work.ledger.line other;
      last = work.ledger.last + 1;
      ceiling = raised limits work.ledger;
    };
    changed = true;
  }

  -- a slot that is not leased and has a version is pruned
  abbrev pub pruned : Slot → Work → Result Work CoordRefusal
  pruned slot work =
      if is_leased work.ledger slot then Err refusal.SlotLeased
      else (if is_nil (work.ledger.line slot) then Err refusal.NoSuchSlot
      else (if nat_lt work.ledger.last limits.greatest
      then Ok (notes (note.Pruned (record { 0 = work.ledger.last + 1 })) (prunes slot work))
      else Err refusal.TicketsSpent))

  -- the Grant of the lease is sent again, and a Recall where its tenure is awaited
  abbrev pub nudges : Lease → Work → Work
  nudges lease work =
      if is_awaited work.ledger.parked lease
      then says (told.Recall lease.node lease.life lease.ticket) (says (told.Granted (its_grant work lease)) work)
      else says (told.Granted (its_grant work lease)) work

  -- the Grant of each lease again, the oldest first
  abbrev pub nudge_all : List Lease → Work → Work
  nudge_all [] work = work
  nudge_all (lease ∷ leases) work = nudge_all leases (nudges lease work)

  -- all leases are told again
  abbrev pub nudged : Work → Work
  nudged work = notes note.Nudged (nudge_all work.ledger.live work)

-- the record

-- what the record holds: no last ticket, no parked ask, and of the leases those that are saved
pub record Saved : Type 0 where
  pub live : List Lease
  pub retired : Slot → Bool
  pub gone : ℕ → Bool
  pub line : Slot → List LineVersion
  pub ceiling : ℕ
  pub old_home : Option NodeId
  pub lives : ℕ → ℕ

-- the record of a ledger
abbrev pub saves : Ledger → Saved
saves ledger = record {
  live = filter is_saved ledger.live;
  retired = ledger.retired;
  gone = ledger.gone;
  line = ledger.line;
  ceiling = ledger.ceiling;
  old_home = ledger.old_home;
  lives = ledger.lives;
}

-- the ledger that a record is read as
abbrev pub reads : Saved → Ledger
reads saved = record {
  live = saved.live;
  retired = saved.retired;
  gone = saved.gone;
  line = saved.line;
  last = saved.ceiling;
  ceiling = saved.ceiling;
  old_home = saved.old_home;
  lives = saved.lives;
  parked = [];
}

-- the ledger that a restart makes of this one's record
abbrev pub reread : Ledger → Ledger
reread ledger = reads (saves ledger)
