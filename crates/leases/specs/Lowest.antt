-- The lowest free instance of a folder.
use Rattle.std.specs.Prelude.{◌≡◌, ◌≢◌, ℕ, ◌≤◌, ◌<◌, Bool, true, false}
use Rattle.names.specs.declared.limits.TheConstants.{INSTANCES}
use Rattle.protocol.specs.Names.{Slot, FolderName}
use Rattle.protocol.specs.Ledger.{lowest}

-- the instance is free, and none below it is
pub record IsLowestFree (free : Slot → Bool) (f : FolderName) (i : ℕ) : Type 0 where
  pub range : (1 ≤ i) × (i ≤ INSTANCES)
  pub is_free : free (record { folder = f; instance = i }) ≡ true
  pub below : (j : ℕ) → 1 ≤ j → j < i → free (record { folder = f; instance = j }) ≡ false

-- `lowest` is the lowest free instance of 1 to 4,096, and 0 exactly if none is free
pub record LowestIsLowest (free : Slot → Bool) (f : FolderName) : Type 0 where
  pub found : lowest free f 1 INSTANCES ≢ 0 → IsLowestFree free f (lowest free f 1 INSTANCES)
  pub none : lowest free f 1 INSTANCES ≡ 0 → (j : ℕ) → 1 ≤ j → j ≤ INSTANCES
      → free (record { folder = f; instance = j }) ≡ false
