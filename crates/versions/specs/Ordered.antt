-- The lines of slots, by rising slot.
use Rattle.std.specs.Prelude.{◌≡◌, ◌≢◌, ℕ, ◌<◌, ◌≤◌, List, [], length, map, All, slice_index_or}
use Rattle.std.specs.List.{HoldsAt}
use Rattle.std.specs.List.Sorted.{IsStrictlySortedBy}
use Rattle.std.specs.declared.cmp.Ordering.TheVariants.{Less}
use Rattle.names.specs.Slots.{slot_cmp}
use Rattle.protocol.specs.Names.{Slot}
use Rattle.versions.specs.declared.lines.SlotLine.{SlotLine}
use Rattle.versions.specs.Line.{IsLine}

-- the slots of some lines
abbrev pub slots : List SlotLine → List Slot
slots lines = map (λ l. l.slot) lines

-- lines that are not empty, by rising slot, each with rising tickets
pub record AreLines (lines : List SlotLine) : Type 0 where
  pub rise : IsStrictlySortedBy slot_cmp (slots lines)
  pub filled : All (λ l. l.line ≢ []) lines
  pub tickets : All (λ l. IsLine l.line) lines

-- the slot's line stands at this place
pub record IsPlace (s : Slot) (lines : List SlotLine) (k : ℕ) : Type 0 where
  pub inside : k < length lines
  pub slot : HoldsAt (λ l. l.slot ≡ s) lines k

-- the slot has no line, and would have it at this place
pub record IsGap (s : Slot) (lines : List SlotLine) (k : ℕ) : Type 0 where
  pub inside : k ≤ length lines
  pub below : (i : ℕ) (d : SlotLine) → i < k → slot_cmp (slice_index_or lines i d).slot s ≡ Less
  pub above : (i : ℕ) (d : SlotLine) → k ≤ i → i < length lines → slot_cmp s (slice_index_or lines i d).slot ≡ Less
