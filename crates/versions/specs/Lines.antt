-- The lines of slots, and what contracts see of what a commit adds to them.
use Rattle.std.specs.Prelude.{ℕ, ◌+◌, if◌then◌else◌, List, [], ◌∷◌, ◌++◌, length, map, Option, Some, None}
use Rattle.std.specs.Vec.{vec_len}
use Rattle.protocol.specs.Names.{Slot, slot_eq}
use Rattle.protocol.specs.Machine.{LineVersion, News, digest_for, version_of}
use Rattle.versions.specs.declared.lines.Addition.{Addition}
use Rattle.versions.specs.declared.lines.Added.{Added}
use Rattle.versions.specs.declared.lines.SlotLine.{SlotLine}

-- the line of each slot
abbrev pub LineOf : Type 0
LineOf = Slot → List LineVersion

-- the line of a slot
abbrev pub line_at : List SlotLine → Slot → List LineVersion
line_at [] s = []
line_at (l ∷ ls) s = if slot_eq l.slot s then l.line else line_at ls s

-- the line, if it has a version
abbrev pub line_shown : List LineVersion → Option (List LineVersion)
line_shown [] = None
line_shown (v ∷ vs) = Some (v ∷ vs)

abbrev pub news_of : Addition → News
news_of a = record { slot = a.slot; digest = a.digest }

-- the lines with what a commit adds
abbrev pub lines_with : List SlotLine → Option Added → LineOf
lines_with lines None s = line_at lines s
lines_with lines (Some a) s = line_at lines s ++ version_of a.ticket (digest_for s (map news_of a.additions.items))

-- how many lines there has to be room for: none where nothing is added
abbrev pub room_needed : List SlotLine → Option Added → ℕ
room_needed lines None = 0
room_needed lines (Some a) = length lines + vec_len a.additions
