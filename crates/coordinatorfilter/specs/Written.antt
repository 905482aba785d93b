-- What a coordinator's filter writes (this project's own). The words of notes and refusals are those of a replay.
use Rattle.std.specs.Prelude.{◌≡◌, ℕ, true, false, List, [], ◌++◌, codes, decimal, map, Option, Some, None, Result, Ok, Err, ⊤}
use Rattle.std.specs.List.{flat_map}
use Rattle.ledger.specs.declared.handled.Handled.{Handled}
use Rattle.coordinator.specs.Seen.{Seen}
use Rattle.coordinator.specs.Settling.{Restarts, Syncs}
use Rattle.events.specs.declared.answer.CoordNote.{CoordNote}
use Rattle.events.specs.declared.answer.CoordRefusal.{CoordRefusal}
use Rattle.protocol.specs.Machine.{Told}
use Rattle.saverecord.specs.Texts.{Texts}
use Rattle.schedule.specs.Notes.{coord_note_text}
use Rattle.schedule.specs.RefusalNames.{coord_refusal_text}
use Rattle.coordinatorlines.specs.declared.call.Call.{Call}
use Rattle.coordinatorlines.specs.declared.call.Order.TheVariants as order
use Rattle.coordinatorlines.specs.declared.call.Question.{Question}
use Rattle.services.specs.declared.lost.Lost.{Lost}
use Rattle.coordinatorfilter.specs.declared.reply.Ended.{Ended}
use Rattle.coordinatorfilter.specs.declared.reply.Over.{Over}
use Rattle.coordinatorfilter.specs.declared.reply.Over.TheVariants.{Outdated, Gone}
use Rattle.coordinatorfilter.specs.declared.reply.Reply.{Reply}
use Rattle.services.specs.declared.settled.Settled.{Settled}
use Rattle.services.specs.declared.settled.Settled.TheVariants.{Lasts, Failed}
use Rattle.services.specs.declared.unread.Unread.{Unread}
use Rattle.coordinatorlines.specs.Calls.{called, AsksFor, AsksNothing}
use Rattle.coordinatorfilter.specs.Carried.{Saving, Loading, Syncing, OnlyRestarts, CarriesOut}
use Rattle.services.specs.Outside.{Sends}
use Rattle.services.specs.Served.{OrLost, out_of_memory, restart_line}
use Rattle.coordinatorfilter.specs.Shown.{IsShown}
use Rattle.services.specs.Unreads.{unread_line}
use Rattle.farmwire.specs.Sealed.{Keys}

-- ---- facts and notes

-- the facts of a restart, if there was one
abbrev pub restart_lines : Option (Result ⊤ CoordRefusal) → List ℕ
restart_lines None = []
restart_lines (Some restart) = restart_line restart

-- the fact of a process that isn't heard
abbrev pub over_lines : Option Over → List ℕ
over_lines None = []
over_lines (Some (Outdated node life)) =
    codes ": outdated " ++ decimal node.0 ++ codes " " ++ decimal life.0 ++ codes "\n"
over_lines (Some (Gone node)) = codes ": gone " ++ decimal node.0 ++ codes "\n"

-- the facts of the leases that a call ended
abbrev pub ended_line : Ended → List ℕ
ended_line ended = codes ": ended " ++ decimal ended.ticket.0 ++ codes " " ++ decimal ended.node.0 ++ codes "\n"

abbrev pub ended_lines : Result Handled CoordRefusal → List Ended → List ℕ
ended_lines (Ok handled) ended = flat_map ended_line ended
ended_lines (Err refusal) ended = []

abbrev pub fact_lines : Reply → List ℕ
fact_lines reply =
    restart_lines reply.before ++ (ended_lines reply.answer reply.ended ++ (over_lines reply.over ++ restart_lines reply.after))

abbrev pub note_line : CoordNote → List ℕ
note_line note = codes "= " ++ (coord_note_text note ++ codes "\n")

abbrev pub refused_line : CoordRefusal → List ℕ
refused_line refusal = codes "= refused " ++ (coord_refusal_text refusal ++ codes "\n")

-- ---- answers

-- what is written of an answer, with these facts
abbrev pub IsAnswered : Keys → List ℕ → Result Handled CoordRefusal → List ℕ → Type 0
IsAnswered keys facts (Ok handled) text = (sent : List ℕ) × Sends keys (map Told handled.sends) [] sent
    × (text ≡ sent ++ (facts ++ note_line handled.note))
IsAnswered keys facts (Err refusal) text = text ≡ facts ++ refused_line refusal

-- the messages, then the facts, then the note
abbrev pub IsWritten : Keys → Reply → List ℕ → Type 0
IsWritten keys reply text = IsAnswered keys (fact_lines reply) reply.answer text

-- a line is answered: the call that it asks for is carried out; or memory runs out before it; or what it asks for is
-- shown; or it asks for nothing
pub data Filters {K : Type 0} (saving : Saving K) (loading : Loading K) (kept : K → Texts) (keys : Keys)
    (given : Result (List ℕ) Lost)
    (answer : List ℕ) (old new : Seen K) : Type 0 where
  Calls : (call : Call) (reply : Reply) → AsksFor keys given (order.Call call)
      → CarriesOut saving loading kept (called call) old new reply
      → OrLost (IsWritten keys reply) answer → Filters saving loading kept keys given answer old new
  Stops : (call : Call) → AsksFor keys given (order.Call call) → OnlyRestarts loading (kept old.keeper) old new
      → answer ≡ out_of_memory → Filters saving loading kept keys given answer old new
  Shows : (question : Question) → AsksFor keys given (order.Show question) → new ≡ old
      → OrLost (IsShown old.held question) answer
      → Filters saving loading kept keys given answer old new
  Drops : (why : Unread) → AsksNothing keys given why → new ≡ old → OrLost (λ text. text ≡ unread_line why) answer
      → Filters saving loading kept keys given answer old new

-- ---- what was answered is made to last

-- the keeper makes all that it keeps last; or it can't, and the coordinator restarts
abbrev pub MakesLast : {K : Type 0} → Syncing K → Loading K → (K → Texts) → (K → Texts) → Seen K → Settled → Seen K
    → Type 0
MakesLast syncing loading kept lasting old Lasts new = Syncs syncing old true new × (lasting new.keeper ≡ kept new.keeper)
MakesLast {K} syncing loading kept lasting old (Failed restart) new = (failed : Seen K) × Syncs syncing old false failed
    × Restarts loading (kept failed.keeper) failed new restart
