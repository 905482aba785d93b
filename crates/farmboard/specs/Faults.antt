-- The steps by which a farm is disturbed.
use Rattle.std.specs.Prelude.{⊤, ◌≡◌, ℕ, true, false, [], ◌∷◌, ◌++◌, Result, Ok, Err}
use Rattle.std.specs.List.{list_any}
use Rattle.protocol.specs.Names.{NodeId}
use Rattle.events.specs.declared.event.Event.{Event}
use Rattle.events.specs.declared.event.Event.TheVariants as event
use Rattle.events.specs.declared.answer.EventRefusal.TheVariants.{NoSuchMessage}
use Rattle.events.specs.declared.answer.Outcome.{Outcome}
use Rattle.farmboard.specs.declared.fault.FarmStep.{FarmStep}
use Rattle.farmboard.specs.declared.fault.FarmStep.TheVariants.{Skip, Again, Resend, Nudge, Withdraw, Prune, Retire, RestartNode, RestartCoordinator, FailSave, Forge}
use Rattle.farmhistory.specs.declared.refusal.BoardRefusal.{BoardRefusal}
use Rattle.farmhistory.specs.declared.refusal.BoardRefusal.TheVariants as board
use Rattle.farmhistory.specs.History.{History, Took, IsNext, NoneLeft}
use Rattle.farmhistory.specs.Out.{is_on, out_of}

-- the event was taken or refused so
abbrev pub TookOrNot : History → Event → History → Result ⊤ BoardRefusal → Type 0
TookOrNot old next new (Ok tt) = (outcome : Outcome) × Took old next new (Ok outcome)
TookOrNot old next new (Err reason) = Took old next new (Err reason)

-- the next message is skipped, where one is left. Nothing is appended
abbrev pub Skips : History → History → Result ⊤ BoardRefusal → Type 0
Skips old new (Ok tt) = (number : ℕ) × IsNext old number × (new ≡ record old { skipped = old.skipped ++ number ∷ [] })
Skips old new (Err (board.Event reason)) = (reason ≡ NoSuchMessage) × NoneLeft old × (new ≡ old)
Skips old new (Err board.HistoryFull) = ⊥
Skips old new (Err board.TokenOut) = ⊥
Skips old new (Err board.OutOfMemory) = new ≡ old

-- a restart of a node is refused while an execution on it is in use
abbrev pub RestartsNode : NodeId → History → History → Result ⊤ BoardRefusal → Type 0
RestartsNode node old new (Err board.TokenOut) = (list_any (is_on node) (out_of old) ≡ true) × (new ≡ old)
RestartsNode node old new told = (list_any (is_on node) (out_of old) ≡ false) × TookOrNot old (event.RestartNode node) new told

abbrev pub Faults : FarmStep → History → History → Result ⊤ BoardRefusal → Type 0
Faults Skip old new = Skips old new
Faults (Again number) old new = TookOrNot old (event.Deliver number) new
Faults (Resend node) old new = TookOrNot old (event.Resend node) new
Faults Nudge old new = TookOrNot old event.Nudge new
Faults (Withdraw ticket) old new = TookOrNot old (event.Withdraw ticket) new
Faults (Prune slot) old new = TookOrNot old (event.Prune slot) new
Faults (Retire node) old new = TookOrNot old (event.Retire node) new
Faults (RestartNode node) old new = RestartsNode node old new
Faults RestartCoordinator old new = TookOrNot old event.RestartCoordinator new
Faults (FailSave kept) old new = TookOrNot old (event.FailSave kept) new
Faults (Forge node content) old new = TookOrNot old (event.Forge node content) new
