-- What a replay prints: a line for each event, and a line for each slot.
use Rattle.std.specs.Prelude.{ℕ, ◌+◌, ◌-◌, nat_eq, if◌then◌else◌, List, [], ◌++◌, codes, decimal, Result, Ok, Err}
use Rattle.std.specs.List.{flat_map, enumerate_from}
use Rattle.hex.specs.Hex.{encode_lower}
use Rattle.farm_base.specs.declared.message.LineVersion.{LineVersion}
use Rattle.names.specs.Names.{slot_text}
use Rattle.names.specs.Slots.{SlotParts}
use Rattle.events.specs.declared.answer.Outcome.{Outcome}
use Rattle.events.specs.declared.answer.EventRefusal.{EventRefusal}
use Rattle.schedule.specs.Notes.{note_text}
use Rattle.schedule.specs.RefusalNames.{refusal_text}

-- the numbers of the messages that were sent: nothing, ` -> FIRST`, or ` -> FIRST..LAST`
abbrev pub sent_text : ℕ → ℕ → List ℕ
sent_text first sent =
    if nat_eq sent 0 then [] else codes " -> " ++ decimal first ++ (if nat_eq sent 1 then [] else codes ".." ++ decimal (first + sent - 1))

-- what the event did and sent, or `refused` and why
abbrev pub answer_text : Result Outcome EventRefusal → List ℕ
answer_text (Ok o) = note_text o.note ++ sent_text o.first o.sent
answer_text (Err refusal) = codes "refused " ++ refusal_text refusal

-- the line of an event: its number, and its result
abbrev pub outcome_text : ℕ → Result Outcome EventRefusal → List ℕ
outcome_text number outcome = decimal number ++ codes " " ++ answer_text outcome ++ codes "\n"

-- ` NUMBER:TICKET:DIGITS`
abbrev pub version_text : ℕ × LineVersion → List ℕ
version_text (number, version) =
    codes " " ++ decimal number ++ codes ":" ++ decimal version.ticket.0 ++ codes ":" ++ encode_lower version.digest.0

-- the line of a slot: its name, and its versions, numbered from 1
abbrev pub line_text : SlotParts → List LineVersion → List ℕ
line_text slot line = slot_text slot ++ flat_map version_text (enumerate_from 1 line) ++ codes "\n"
