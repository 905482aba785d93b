-- What the threads of a farm share, or hand on, may cross threads.
use denote.Param.Send.{IsSend, IsSync, recorded_send, struct_send, sendable}
use denote.Struct.Declared.{shape}
use Rattle.std.proofs.Crossing.{crosses}
use Rattle.std.proofs.MapsCrossing as maps
use Rattle.farm_base.specs.contracts.message.Message as Message
use Rattle.events.specs.contracts.event.Event as Event
use Rattle.folders.specs.contracts.folder.Folder as Folder
use Rattle.farmboard.specs.contracts.tokens.Running as Running
use Rattle.slotfolders.specs.contracts.batch.Batch as Batch
use Rattle.executions.specs.contracts.live_shared.Open as Open
use Rattle.nodeasks.specs.contracts.all_asks.AllAsks as AllAsks
use Rattle.nodeasks.specs.contracts.ask_row.AskRow as AskRow
use Rattle.nodeasks.specs.contracts.ask_table.AskTable as AskTable
use Rattle.nodecontents.specs.contracts.stored.StoredContents as StoredContents
use Rattle.nodeasks.specs.contracts.ticket_index.TicketIndex as TicketIndex
use Rattle.nodecore.specs.contracts.node_core.NodeCore as NodeCore
use Rattle.saverecord.specs.contracts.keeper.MemoryKeeper as MemoryKeeper
use Rattle.ledger.specs.contracts.ledger.Ledger as Ledger
use Rattle.farmboard.specs.World as World
use Rattle.farmboard.specs.contracts.board.Board as Board
use Rattle.farmboard.specs.contracts.board.Board.TheInside as Inside
use Rattle.jobs.specs.contracts.jobs.Jobs as Jobs
use Rattle.executions.specs.contracts.live_shared.LiveShared as LiveShared
use Rattle.solverkeys.specs.contracts.keyed.Keyed as Keyed
use Rattle.solving.specs.contracts.work.Work as Work
use Rattle.farm.specs.contracts.node_state.NodeJobs as NodeJobs
use Rattle.farm.specs.contracts.open_folders.OpenFolders as OpenFolders
use Rattle.farm.specs.contracts.node_state.NodeState as NodeState
use Rattle.farm.specs.contracts.locked_board.LockedBoard as LockedBoard
use Rattle.farm.specs.contracts.common.Common as Common

pub message : IsSend Message.the_row
message = search (sendable, crosses, maps.crosses) depth 60 fits 20000

pub event : IsSend Event.the_row
event = search (sendable, crosses, maps.crosses) depth 60 fits 20000

ask_row : IsSend AskRow.the_row
ask_row = search (sendable, crosses, maps.crosses) depth 60 fits 20000

all_asks : IsSend AllAsks.the_row
all_asks = search (sendable, crosses, maps.crosses) depth 60 fits 20000

ask_table : IsSend AskTable.the_field.row
ask_table =
    struct_send (shape AskTable.the_type) (search sendable depth 40, (search (sendable, crosses, ask_row) depth 60 fits 20000, (search sendable depth 40, (search (sendable, crosses, all_asks) depth 40, tt))))

stored_contents : IsSend StoredContents.the_field.row
stored_contents = search (sendable, crosses, maps.crosses) depth 60 fits 20000

ticket_index : IsSend TicketIndex.the_field.row
ticket_index = search (sendable, crosses, maps.crosses) depth 60 fits 20000

pub node_core : IsSend NodeCore.the_row
node_core =
    recorded_send NodeCore.the_field.row _ _ NodeCore.the_type.to_one
    (struct_send (shape NodeCore.the_type) (search sendable depth 40, (search sendable depth 40, (search sendable depth 40, (ask_table, (ticket_index, (stored_contents, (search (sendable, crosses, maps.crosses) depth 60 fits 20000, (search sendable depth 40, tt)))))))))

ledger : IsSend Ledger.the_row
ledger = search (sendable, crosses, maps.crosses) depth 60 fits 20000

keeper : IsSend MemoryKeeper.the_row
keeper = search (sendable, crosses, maps.crosses) depth 60 fits 20000

pub world : IsSend World.the_field.row
world = search (sendable, crosses, maps.crosses, message, node_core, ledger, keeper) depth 60 fits 20000

board_inside : IsSend Inside.the_row
board_inside =
    recorded_send Inside.the_field.row _ _ Inside.the_type.to_one
    (struct_send (shape Inside.the_type) (search sendable depth 40, (search (crosses, event) depth 40, (search (sendable, crosses) depth 40, (world, (search (sendable, crosses) depth 40, (search (sendable, crosses) depth 40, (search (sendable, crosses) depth 40, (search (sendable, crosses) depth 40, tt)))))))))

pub board : IsSend Board.the_row
board = search (sendable, board_inside) depth 20

pub jobs : IsSend Jobs.the_row
jobs = search (sendable, crosses, maps.crosses) depth 60 fits 20000

pub running : IsSend Running.the_row
running = search (sendable, crosses, maps.crosses) depth 60 fits 20000

pub folder : IsSend Folder.the_row
folder = search (sendable, crosses, maps.crosses) depth 60 fits 20000

pub batch : IsSend Batch.the_row
batch = search (sendable, crosses, maps.crosses) depth 60 fits 20000

pub open_folder : IsSend Open.the_row
open_folder = search (sendable, crosses, maps.crosses, running, folder) depth 60 fits 20000

pub live_shared : IsSend LiveShared.the_row
live_shared = search (sendable, crosses, maps.crosses, batch, open_folder) depth 60 fits 20000

pub keyed : IsSync Keyed.the_row
keyed = search (sendable, crosses, maps.crosses) depth 60 fits 20000

pub work : IsSync Work.the_row
work = search (sendable, crosses, maps.crosses, keyed) depth 60 fits 20000

pub node_jobs : IsSend NodeJobs.the_row
node_jobs = search (sendable, crosses, maps.crosses, jobs) depth 60 fits 20000

pub open_folders : IsSend OpenFolders.the_row
open_folders = search (sendable, crosses, maps.crosses, live_shared) depth 60 fits 20000

pub node_state : IsSync NodeState.the_row
node_state = search (sendable, crosses, node_jobs, open_folders) depth 60 fits 20000

pub locked_board : IsSend LockedBoard.the_row
locked_board = search (sendable, crosses, maps.crosses, board) depth 60 fits 20000

pub common : IsSync Common.the_row
common = search (sendable, crosses, maps.crosses, node_state, locked_board, work) depth 60 fits 20000
