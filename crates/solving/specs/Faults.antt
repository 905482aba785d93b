-- The faults of a run (this project's own).
use Rattle.std.specs.Prelude.{Bool, true, false}
use Rattle.names.specs.declared.digest.Key.{Key}
use Rattle.events.specs.declared.answer.EventRefusal.{EventRefusal}
use Rattle.events.specs.declared.answer.EventRefusal.TheVariants as event
use Rattle.executions.specs.BoardRefusal.{BoardRefusal}
use Rattle.executions.specs.BoardRefusal.TheVariants as board
use Rattle.executions.specs.StartRefusal.{StartRefusal}
use Rattle.executions.specs.StartRefusal.TheVariants as start
use Rattle.jobs.specs.declared.answer.JobsRefusal.{JobsRefusal}
use Rattle.jobs.specs.declared.answer.JobsRefusal.TheVariants as jobs
use Rattle.slotfolders.specs.declared.refusal.RunRefusal.{RunRefusal}
use Rattle.slotfolders.specs.declared.refusal.RunRefusal.TheVariants as run
use Rattle.executions.specs.declared.refusal.SharedRefusal.{SharedRefusal}
use Rattle.executions.specs.declared.refusal.SharedRefusal.TheVariants as shared
use Rattle.solving.specs.declared.fault.FarmFault.{FarmFault}
use Rattle.solving.specs.declared.fault.FarmFault.TheVariants.{HistoryFull, ReceiptLost, BadOutcome, Memory, BadSetup, CoordinatorDown, Stalled, GateHeld, NoThread}

-- with this fault a run may hand nothing back: before anything is begun, or where what stands can't be told
abbrev pub is_bare : FarmFault → Bool
is_bare BadSetup = true
is_bare Memory = true
is_bare ReceiptLost = true
is_bare HistoryFull = false
is_bare (BadOutcome key) = false
is_bare CoordinatorDown = false
is_bare Stalled = false
is_bare (GateHeld key) = false
is_bare NoThread = false

-- what a refused event ends a run with
abbrev pub of_event : EventRefusal → FarmFault
of_event event.OutOfMemory = Memory
of_event event.NoSuchMessage = ReceiptLost
of_event event.NoSuchNode = ReceiptLost
of_event (event.Node refusal) = ReceiptLost
of_event (event.Coord refusal) = ReceiptLost

-- what a refusal of the board ends a run with
abbrev pub of_board : BoardRefusal → FarmFault
of_board (board.Event refusal) = of_event refusal
of_board board.HistoryFull = HistoryFull
of_board board.TokenOut = ReceiptLost
of_board board.OutOfMemory = Memory

-- what a refused start ends a run with
abbrev pub of_start : StartRefusal → FarmFault
of_start start.BadSetup = BadSetup
of_start start.OutOfMemory = Memory

-- what a refusal of the jobs ends a run with
abbrev pub of_jobs : JobsRefusal → FarmFault
of_jobs jobs.OutOfMemory = Memory
of_jobs jobs.NotRunningKey = ReceiptLost
of_jobs jobs.NoSuchJob = ReceiptLost
of_jobs (jobs.NoOutput index) = ReceiptLost

-- what a refused execution of a key ends a run with
abbrev pub of_run : Key → RunRefusal → FarmFault
of_run key (run.BadContents slot) = BadOutcome key
of_run key run.BadEdits = BadOutcome key
of_run key run.OutOfMemory = Memory

-- what a refused opening, look or closing of a SHARED folder ends a run with
abbrev pub of_shared : SharedRefusal → FarmFault
of_shared shared.OutOfMemory = Memory
of_shared shared.TooLarge = ReceiptLost
of_shared shared.Twice = ReceiptLost
of_shared shared.NotOpen = ReceiptLost
of_shared shared.BadContents = ReceiptLost

-- what a refused change of a SHARED folder by the execution of a key ends a run with
abbrev pub of_edits : Key → SharedRefusal → FarmFault
of_edits key shared.TooLarge = BadOutcome key
of_edits key shared.OutOfMemory = Memory
of_edits key shared.Twice = ReceiptLost
of_edits key shared.NotOpen = ReceiptLost
of_edits key shared.BadContents = ReceiptLost
