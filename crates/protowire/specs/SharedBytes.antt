-- Bytes that stand in a buffer of their own or in one that others have too (this project's own).
use Rattle.std.specs.Prelude.{◌≤◌, ℕ, List, length, slice_range}
use Rattle.std.specs.Arc.{arc_value}
use Rattle.protowire.specs.declared.shared_bytes.Place.{Place}
use Rattle.protowire.specs.declared.shared_bytes.Place.TheVariants.{Own, Part}

-- the bytes, wherever they stand
abbrev pub bytes_at : Place → List ℕ
bytes_at (Own bytes) = bytes.items
bytes_at (Part buffer span) = slice_range (arc_value buffer).items span.start span.end

-- a part doesn't end before it begins, or after its buffer
abbrev pub IsPlace : Place → Type 0
IsPlace (Own bytes) = Unit {0}
IsPlace (Part buffer span) = (span.start ≤ span.end) × (span.end ≤ length (arc_value buffer).items)
