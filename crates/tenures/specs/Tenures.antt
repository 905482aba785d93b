-- How the tenures of SHARED folders stand on the nodes of a farm (this project's own).
use Rattle.std.specs.Prelude.{◌+◌, ◌-◌, ◌^◌, ◌==◌, min, Bool, true, false, not, cond, ◌&&◌, ◌||◌, List, Option, Some, None}
use Rattle.std.specs.List.{list_any, list_all}
use Rattle.names.specs.Folders.{folder_eq}
use Rattle.names.specs.declared.folder.FolderName.{FolderName}
use Rattle.names.specs.declared.number.NodeId.{NodeId}
use Rattle.names.specs.declared.number.Ticket.{Ticket}
use Rattle.farm_base.specs.declared.want.Want.{Want}
use Rattle.protocol.specs.Names.{is_shared}
use Rattle.tenures.specs.declared.tenure.Ends.{Ends}
use Rattle.tenures.specs.declared.tenure.Ends.TheVariants.{Recalled, OfNode, All}
use Rattle.tenures.specs.declared.tenure.Stage.{Stage}
use Rattle.tenures.specs.declared.tenure.Stage.TheVariants.{Asked, InUse, Ending}
use Rattle.tenures.specs.declared.tenure.Tenure.{Tenure}

-- the tenures, and the tickets of those that were recalled
pub record TenureParts : Type 0 where
  pub tenures : List Tenure
  pub recalled : List Ticket

-- a tenure that was asked for
abbrev pub asked : NodeId → FolderName → Tenure
asked node folder = record { node = node; folder = folder; stage = Asked; users = 0 }

-- the tenure of the folder on the node
abbrev pub is_at : NodeId → FolderName → Tenure → Bool
is_at node folder t = (t.node.0 == node.0) && folder_eq t.folder folder

-- the folder is SHARED and among the wants
abbrev pub share : List Want → FolderName → Bool
share wants folder = list_any (λ w. is_shared w.folder.mode && folder_eq w.folder folder) wants

-- an execution on the node with these wants uses the tenure's folder
abbrev pub is_wanted : NodeId → List Want → Tenure → Bool
is_wanted node wants t = (t.node.0 == node.0) && share wants t.folder

-- the ticket of a tenure that is in use
abbrev pub ticket_of : Stage → Option Ticket
ticket_of Asked = None
ticket_of (InUse ticket) = Some ticket
ticket_of Ending = None

-- the ticket is one of these
abbrev pub among : List Ticket → Ticket → Bool
among tickets ticket = list_any (λ t. t.0 == ticket.0) tickets

abbrev pub is_recalled : TenureParts → Ticket → Bool
is_recalled parts ticket = among parts.recalled ticket

abbrev pub open_under : TenureParts → Option Ticket → Bool
open_under parts None = false
open_under parts (Some ticket) = not (is_recalled parts ticket)

-- the folder is open, and its tenure was not recalled
abbrev pub is_open : TenureParts → Tenure → Bool
is_open parts t = open_under parts (ticket_of t.stage)

abbrev pub in_use : TenureParts → NodeId → FolderName → Bool
in_use parts node folder = list_any (λ t. is_at node folder t && is_open parts t) parts.tenures

abbrev pub all_in_use : TenureParts → NodeId → List Want → Bool
all_in_use parts node wants = list_all (λ w. not (is_shared w.folder.mode) || in_use parts node w.folder) wants

-- the tenure, which stands so if it is that of the folder on the node
abbrev pub staged : NodeId → FolderName → Stage → Tenure → Tenure
staged node folder stage t = cond (is_at node folder t) (record t { stage = stage }) t

-- an execution more uses the tenure's folder, if it is among these wants on the node
abbrev pub taken_up : NodeId → List Want → Tenure → Tenure
taken_up node wants t = cond (is_wanted node wants t) (record t { users = min (t.users + 1) (2 ^ 64 - 1) }) t

-- an execution fewer uses it
abbrev pub put_down : NodeId → List Want → Tenure → Tenure
put_down node wants t = cond (is_wanted node wants t) (record t { users = t.users - 1 }) t

-- the tenure is in use under this ticket
abbrev pub is_under : Ticket → Tenure → Bool
is_under ticket t = elim (ticket_of t.stage) [
  | None ↦ false
  | Some own ↦ own.0 == ticket.0
]

-- the tenure, under this ticket, is one that `ends` names
abbrev pub ends_under : TenureParts → Ends → Tenure → Option Ticket → Bool
ends_under parts ends t None = false
ends_under parts Recalled t (Some ticket) = is_recalled parts ticket
ends_under parts (OfNode node) t (Some ticket) = t.node.0 == node.0
ends_under parts All t (Some ticket) = true

-- the tenure is to end: it is in use, no execution uses its folder, and `ends` names it
abbrev pub is_to_end : TenureParts → Ends → Tenure → Bool
is_to_end parts ends t = ends_under parts ends t (ticket_of t.stage) && (t.users == 0)
