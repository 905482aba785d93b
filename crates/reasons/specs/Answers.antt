-- The reasons of the answers of a run (this project's own).
use Rattle.std.specs.Prelude.{◌≡◌, ◌⊎◌, ℕ, List, Some}
use Rattle.std.specs.List.{AllZip}
use Rattle.farm_base.specs.declared.message.FromCoord.TheVariants.{Denied}
use Rattle.farm_base.specs.declared.message.Why.{Why}
use Rattle.protocol.specs.Lists.{nth}
use Rattle.protocol.specs.Names.{NodeId, Life, Ask}
use Rattle.protocol.specs.Machine.{Message, Told}
use Rattle.protocol.specs.Replay.{Farm}
use Rattle.executions.specs.declared.call.Call.{Call}
use Rattle.jobs.specs.declared.answer.Answer.{Answer}
use Rattle.jobs.specs.declared.answer.Answer.TheVariants.{Waiting, Output, Failed}
use Rattle.solverkeys.specs.Keyed.{KeyedParts}
use Rattle.reasons.specs.NewCalls.{new_calls}
use Rattle.reasons.specs.Solved.{IsSolved, IsFailing}

-- the message denies an ask of the node
abbrev pub IsDenial : NodeId → Message → Type 0
IsDenial node m = (life : Life) × (ask : Ask) × (why : Why) × (m ≡ Told (Denied node life ask why))

-- such a message was sent
abbrev pub WasDenied : Farm → NodeId → Type 0
WasDenied s node = (number : ℕ) × (m : Message) × (nth s.pool number ≡ Some m) × IsDenial node m

-- the answer of a job on this node has its reason in the new calls there, or in a Denied
abbrev pub IsAnswered : Farm → List (List Call) → NodeId → KeyedParts → Answer → Type 0
IsAnswered s news node keyed (Output digest) = IsSolved news keyed digest
IsAnswered s news node keyed Failed = IsFailing news keyed ⊎ WasDenied s node
IsAnswered s news node keyed Waiting = ⊥

-- one answer for each job, each with its reason in the new calls on the job's node: of the executors, in order, their
-- nodes, the calls that they had, and those at the end
abbrev pub AreAnswered : Farm → List NodeId → List (List Call) → List (List Call) → List (NodeId × KeyedParts)
    → List Answer → Type 0
AreAnswered s nodes hads ends jobs answers =
    AllZip (λ job answer. IsAnswered s (new_calls job.0 nodes hads ends) job.0 job.1 answer) jobs answers
