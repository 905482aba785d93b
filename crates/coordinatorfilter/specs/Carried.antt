-- What a coordinator does of a call, with the restarts that go with it (this project's own).
use Rattle.std.specs.Prelude.{◌≡◌, Bool, true, false, List, [], filter, map, Option, Some, None, Result, Ok, ⊤}
use Rattle.ledger.specs.declared.handled.Handled.{Handled}
use Rattle.coordinator.specs.Held.{ledger, life_at}
use Rattle.coordinator.specs.Seen.{Seen}
use Rattle.coordinator.specs.Settling.{Settles, Restarts}
use Rattle.ledger.specs.Settling.{is_save_fault}
use Rattle.farm_base.specs.declared.lease.NodeLife.{NodeLife}
use Rattle.events.specs.declared.answer.CoordNote.{CoordNote}
use Rattle.events.specs.declared.answer.CoordNote.TheVariants as note
use Rattle.events.specs.declared.answer.CoordRefusal.{CoordRefusal}
use Rattle.protocol.specs.Farm.{farm_limits}
use Rattle.protocol.specs.Ledger.{Lease, has_ticket, is_at}
use Rattle.protocol.specs.Machine.{ToCoord}
use Rattle.protocol.specs.Processes.{decided}
use Rattle.protocol.specs.Processes as process
use Rattle.saverecord.specs.declared.refusal.KeeperRefusal.{KeeperRefusal}
use Rattle.saverecord.specs.Texts.{Texts}
use Rattle.coordinatorfilter.specs.declared.reply.Ended.{Ended}
use Rattle.coordinatorfilter.specs.declared.reply.Over.{Over}
use Rattle.coordinatorfilter.specs.declared.reply.Over.TheVariants.{Outdated, Gone}
use Rattle.coordinatorfilter.specs.declared.reply.Reply.{Reply}

-- what a save may leave, and what a load may
abbrev pub Saving : Type 0 → Type 1
Saving K = K → Texts → Bool → K → Type 0

abbrev pub Loading : Type 0 → Type 1
Loading K = K → Option KeeperRefusal → K → Type 0

-- what a sync may leave
abbrev pub Syncing : Type 0 → Type 1
Syncing K = K → Bool → K → Type 0

-- a restart, where one is due
abbrev pub RestartsIf : {K : Type 0} → Bool → Loading K → Texts → Seen K → Seen K → Option (Result ⊤ CoordRefusal)
    → Type 0
RestartsIf false loading texts old new restart = (restart ≡ None) × (new ≡ old)
RestartsIf true loading texts old new None = ⊥
RestartsIf true loading texts old new (Some result) = Restarts loading texts old new result

-- nothing but that restart was done
abbrev pub OnlyRestarts : {K : Type 0} → Loading K → Texts → Seen K → Seen K → Type 0
OnlyRestarts loading texts old new = (restart : Option (Result ⊤ CoordRefusal))
    × RestartsIf old.down loading texts old new restart

-- whether the operator's call ends a lease, if it isn't refused
abbrev pub ends : process.Call → Lease → Bool
ends (process.Withdraw ticket) lease = has_ticket ticket lease
ends (process.Retire node) lease = is_at node lease
ends call lease = false

abbrev pub ended_of : Lease → Ended
ended_of lease = record { ticket = lease.ticket; node = lease.node }

-- those of these leases, in order; of a message, a prune or a nudge none
abbrev pub ended_by : process.Call → List Lease → List Ended
ended_by (process.Withdraw ticket) live = map ended_of (filter (ends (process.Withdraw ticket)) live)
ended_by (process.Retire node) live = map ended_of (filter (ends (process.Retire node)) live)
ended_by call live = []

-- the process of a message that isn't heard: of an older life than was seen, or of a node that is retired
abbrev pub unheard : ToCoord → CoordNote → List NodeLife → Option Over
unheard message note.OldLife lives = Some (Outdated message.node (record { 0 = life_at lives message.node.0 }))
unheard message note.NodeRetired lives = Some (Gone message.node)
unheard message note lives = None

-- the same, of a call and its answer
abbrev pub over_of : process.Call → Result Handled CoordRefusal → List NodeLife → Option Over
over_of (process.Handle message) (Ok handled) lives = unheard message handled.note lives
over_of call answer lives = None

-- a coordinator that is down restarts; then the call is made, which it refuses while it is down; and where its save
-- failed the coordinator restarts
pub record CarriesOut {K : Type 0} (saving : Saving K) (loading : Loading K) (kept : K → Texts) (call : process.Call)
    (old new : Seen K) (reply : Reply) : Type 0 where
  pub ready : Seen K
  pub done : Seen K
  pub before : RestartsIf old.down loading (kept old.keeper) old ready reply.before
  pub ended : reply.ended ≡ ended_by call ready.held.live
  pub answer : Settles saving (decided farm_limits (ledger ready.held) call) ready done reply.answer
  pub over : reply.over ≡ over_of call reply.answer done.held.lives
  pub after : RestartsIf (is_save_fault reply.answer) loading (kept done.keeper) done new reply.after
