-- Byte strings that stand in one text (this project's own).
use Rattle.std.specs.Prelude.{◌≤◌, ℕ, List, map, All}
use Rattle.std.specs.List.{slice_range}
use Rattle.protowire.specs.declared.body_list.Span.{Span}

-- no byte string ends before it begins, or after `len` bytes
abbrev pub AreWithin : ℕ → List Span → Type 0
AreWithin len spans = All (λ s. (s.start ≤ s.end) × (s.end ≤ len)) spans

-- the bytes at these places
abbrev pub pieces : List ℕ → List Span → List (List ℕ)
pieces text spans = map (λ s. slice_range text s.start s.end) spans
