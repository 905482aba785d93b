-- The messages that have a line: their numbers are in their ranges, so what a coordinator reads can be handled by it
-- (`Coordinator::handle` asks for the ranges of `IsSaid`).
use Rattle.std.specs.Prelude.{◌≡◌, ℕ, ◌≤◌, ◌<◌, ◌^◌, ◌-◌, true, false, List, [], ◌∷◌}
use Rattle.std.specs.List.{All}
use Rattle.names.specs.declared.folder.FolderName.{FolderName}
use Rattle.names.specs.declared.folder.Mode.TheVariants.{Shared}
use Rattle.names.specs.declared.limits.TheConstants.{NODES}
use Rattle.farm_base.specs.declared.message.Confirmed.{Confirmed}
use Rattle.farm_base.specs.declared.message.Fetch.{Fetch}
use Rattle.farm_base.specs.declared.message.FromCoord.{FromCoord}
use Rattle.farm_base.specs.declared.message.FromCoord.TheVariants.{Granted, Committed, Fenced, Denied, Recall}
use Rattle.farm_base.specs.declared.message.Grant.{Grant}
use Rattle.farm_base.specs.declared.message.GrantedSlot.{GrantedSlot}
use Rattle.farm_base.specs.declared.message.Message.{Message}
use Rattle.farm_base.specs.declared.message.Message.TheVariants as to
use Rattle.farm_base.specs.declared.message.News.{News}
use Rattle.farm_base.specs.declared.message.Request.{Request}
use Rattle.farm_base.specs.declared.message.Request.TheVariants.{Hello, Acquire, Commit, Release}
use Rattle.farm_base.specs.declared.message.ToCoord.{ToCoord}
use Rattle.farm_base.specs.declared.message.ToNode.TheVariants as to_node
use Rattle.names.specs.declared.number.Ask.{Ask}
use Rattle.names.specs.declared.number.Life.{Life}
use Rattle.names.specs.declared.number.NodeId.{NodeId}
use Rattle.names.specs.declared.number.Ticket.{Ticket}
use Rattle.farm_base.specs.declared.want.Want.{Want}
use Rattle.names.specs.Digests.{IsBytes, IsDigest}
use Rattle.names.specs.Names.{IsName, IsSlot}
use Rattle.words.specs.Words.{AreWants}

-- ---- numbers

-- a node of a farm; they are counted from 1
abbrev pub IsNode : NodeId → Type 0
IsNode n = (1 ≤ n.0) × (n.0 ≤ NODES)

-- lives, asks and tickets are counted from 1
abbrev pub IsCounted : ℕ → Type 0
IsCounted n = (1 ≤ n) × (n < 2 ^ 64)

-- no line says the greatest life: a node's last word is for the operator to say
abbrev pub IsLife : Life → Type 0
IsLife l = (1 ≤ l.0) × (l.0 < 2 ^ 64 - 1)

abbrev pub IsAsk : Ask → Type 0
IsAsk a = IsCounted a.0

abbrev pub IsTicket : Ticket → Type 0
IsTicket t = IsCounted t.0

-- ---- items; each of them holds of every one of the program

pub record IsNews (news : News) : Type 0 where
  pub slot : IsSlot news.slot
  pub digest : IsDigest news.digest

pub record IsConfirmed (version : Confirmed) : Type 0 where
  pub slot : IsSlot version.slot
  pub number : version.number < 2 ^ 64
  pub digest : IsDigest version.digest

pub record IsGranted (granted : GrantedSlot) : Type 0 where
  pub slot : IsSlot granted.slot
  pub base : granted.base < 2 ^ 64
  pub digest : IsDigest granted.digest

-- ---- messages

-- one SHARED folder, writable
pub record IsTenure (wants : List Want) : Type 0 where
  pub folder : FolderName
  pub name : IsName folder
  pub shared : folder.mode ≡ Shared
  pub one : wants ≡ record { folder = folder; writable = true } ∷ []

abbrev pub IsRequest : Request → Type 0
IsRequest Hello = Unit {0}
IsRequest (Acquire a wants false) = IsAsk a × AreWants wants
IsRequest (Acquire a wants true) = IsAsk a × IsTenure wants
IsRequest (Commit t news) = IsTicket t × All IsNews news
IsRequest (Release t) = IsTicket t

-- a message to the coordinator whose numbers are in their ranges
pub record IsSaid (y : ToCoord) : Type 0 where
  pub node : IsNode y.node
  pub life : IsLife y.life
  pub request : IsRequest y.request

pub record IsGrant (g : Grant) : Type 0 where
  pub node : IsNode g.node
  pub life : IsLife g.life
  pub ask : IsAsk g.ask
  pub ticket : IsTicket g.ticket
  pub slots : All IsGranted g.slots

abbrev pub IsTold : FromCoord → Type 0
IsTold (Granted g) = IsGrant g
IsTold (Committed n l t versions) = IsNode n × IsLife l × IsTicket t × All IsConfirmed versions
IsTold (Fenced n l t) = IsNode n × IsLife l × IsTicket t
IsTold (Denied n l a why) = IsNode n × IsLife l × IsAsk a
IsTold (Recall n l t) = IsNode n × IsLife l × IsTicket t

pub record IsFetch (f : Fetch) : Type 0 where
  pub node : IsNode f.node
  pub from : IsNode f.from
  pub digest : IsDigest f.digest

abbrev pub IsLawful : Message → Type 0
IsLawful (to.ToCoord y) = IsSaid y
IsLawful (to.ToNode (to_node.FromCoord told)) = IsTold told
IsLawful (to.ToNode (to_node.Fetch f)) = IsFetch f
IsLawful (to.ToNode (to_node.Blob n content)) = IsNode n × IsBytes content
