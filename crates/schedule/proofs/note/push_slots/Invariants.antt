use Rattle.std.proofs.Common.{◌≡◌, ◌++◌, take}
use Rattle.std.specs.List.{flat_map}
use Rattle.std.specs.String.{string_bytes}
use Rattle.schedule.specs.Notes.{granted_text}
use Rattle.schedule.proofs.note.push_slots.Given as goal

abbrev pub invariant-loop-granted : goal.invariant-loop-granted
invariant-loop-granted l = string_bytes l.text ≡ string_bytes l.fn.text ++ flat_map granted_text (take l.granted-index l.slots)
