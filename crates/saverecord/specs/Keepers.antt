-- Who keeps the texts of a record, over saves and appends that may fail.
use Rattle.std.specs.Prelude.{◌≡◌, ◌≢◌, ◌⊎◌, ℕ, ◌+◌, ◌<◌, Bool, not, is_some, Option, Some, None, min}
use Rattle.events.specs.declared.answer.Kept.{Kept}
use Rattle.events.specs.declared.answer.Kept.TheVariants.{Old, New}
use Rattle.saverecord.specs.Texts.{Texts}
use Rattle.saverecord.specs.declared.refusal.KeeperRefusal.{KeeperRefusal}
use Rattle.saverecord.specs.declared.refusal.KeeperRefusal.TheVariants.{Fault}

-- the count of a device's failures rose, or was at its greatest value
abbrev pub HasFailed : ℕ → ℕ → Type 0
HasFailed before after = (before < after) ⊎ (before ≡ 0xffff_ffff_ffff_ffff)

-- one more, up to the greatest value of a count
abbrev pub counted_up : ℕ → ℕ
counted_up n = min (n + 1) 0xffff_ffff_ffff_ffff

-- a keeper in memory, as contracts see it
pub record Memory : Type 0 where
  -- what a load gives
  pub texts : Texts
  -- if the next save, append or sync is to fail, what a save or an append leaves
  pub armed : Option Kept
  -- the number of saves and appends that did not fail
  pub saves : ℕ
  -- the number of saves, appends and syncs that failed
  pub failures : ℕ

-- after these texts were to be kept: if that fails the old or the new ones are kept, and else the new ones
abbrev pub saved_by : Option Kept → Memory → Texts → Memory
saved_by None m texts = record m { texts = texts; saves = counted_up m.saves }
saved_by (Some Old) m texts = record m { armed = None; failures = counted_up m.failures }
saved_by (Some New) m texts = record m { texts = texts; armed = None; failures = counted_up m.failures }

-- after a sync, which fails if that is to come
abbrev pub synced_by : Option Kept → Memory → Memory
synced_by None m = m
synced_by (Some kept) m = record m { armed = None; failures = counted_up m.failures }

abbrev pub saved : Memory → Texts → Memory
saved m texts = saved_by m.armed m texts

-- a save or an append over a keeper in memory: it fails exactly where it was told to
pub record MemorySaves (m : Memory) (texts : Texts) (ok : Bool) (n : Memory) : Type 0 where
  pub succeeds : ok ≡ not (is_some m.armed)
  pub left : n ≡ saved m texts

-- an entry that is gathered over a keeper in memory: it lasts as long as any
abbrev pub MemoryGathers : Memory → Texts → Memory → Type 0
MemoryGathers m texts n = n ≡ record m { texts = texts }

-- a sync over a keeper in memory: it fails exactly where it was told to
pub record MemorySyncs (m : Memory) (ok : Bool) (n : Memory) : Type 0 where
  pub succeeds : ok ≡ not (is_some m.armed)
  pub left : n ≡ synced_by m.armed m

-- a load over a keeper in memory: its device never fails, and it stays as it was
pub record MemoryLoads (m : Memory) (refusal : Option KeeperRefusal) (n : Memory) : Type 0 where
  pub never : refusal ≢ Some Fault
  pub same : n ≡ m
