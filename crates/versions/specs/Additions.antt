-- What a commit adds to the lines, in the room that is made for it.
use Rattle.std.specs.Prelude.{◌≡◌, ℕ, insert, ◌<◌, false, if◌then◌else◌, List, [], ◌∷◌, ◌++◌, length, All, Option, Some, None}
use Rattle.protocol.specs.Names.{Slot, slot_eq, Ticket}
use Rattle.protocol.specs.Machine.{LineVersion}
use Rattle.versions.specs.declared.lines.Addition.{Addition}
use Rattle.versions.specs.declared.lines.Added.{Added}
use Rattle.versions.specs.declared.lines.SlotLine.{SlotLine}
use Rattle.versions.specs.Lines.{line_at}

-- there is room for the version
pub record HasRoom (lines : List SlotLine) (a : Addition) : Type 0 where
  pub room : length (line_at lines a.slot) < a.room
  pub line : a.line ≡ []

-- the ticket is above all on the slot's line
abbrev pub IsAbove : List SlotLine → Ticket → Slot → Type 0
IsAbove lines t s = All (λ v. v.ticket.0 < t.0) (line_at lines s)

-- no slot occurs twice among the additions, each has room, and the ticket is above all on their lines
abbrev pub AreReady : List SlotLine → Ticket → List Addition → Type 0
AreReady lines t [] = Unit {0}
AreReady lines t (a ∷ rest) = HasRoom lines a × IsAbove lines t a.slot × All (λ b. slot_eq a.slot b.slot ≡ false) rest
    × AreReady lines t rest

-- the same for what a commit adds, if there is one
abbrev pub IsReady : List SlotLine → Option Added → Type 0
IsReady lines None = Unit {0}
IsReady lines (Some a) = AreReady lines a.ticket a.additions.items

-- the lines with one more version
abbrev pub adds : Slot → LineVersion → (Slot → List LineVersion) → Slot → List LineVersion
adds s v line x = if slot_eq s x then line x ++ v ∷ [] else line x

-- the lines with these additions
abbrev pub adds_all : Ticket → List Addition → (Slot → List LineVersion) → Slot → List LineVersion
adds_all t [] line = line
adds_all t (a ∷ rest) line = adds_all t rest (adds a.slot (record { ticket = t; digest = a.digest }) line)

-- the line of a slot, with one version, is inserted at this place
abbrev pub IsInserted : List SlotLine → List SlotLine → ℕ → Slot → LineVersion → Type 0
IsInserted old new k s v = new ≡ insert old k (record { slot = s; line = v ∷ [] })
