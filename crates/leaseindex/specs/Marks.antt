-- Sets to which instances of a folder are added, or from which they are taken.
use Rattle.std.specs.Prelude.{◌≡◌, ℕ, ◌≤◌, Bool, not, ◌&&◌, ◌||◌}
use Rattle.names.specs.declared.limits.TheConstants.{INSTANCES}
use Rattle.protocol.specs.Names.{Slot, FolderName}
use Rattle.leaseindex.specs.Instances.{has}
use Rattle.leaseindex.specs.declared.instances.Instances.{Instances}

module _ (old new : Instances) (f : FolderName) (test : Slot → Bool) where
  -- each instance whose slot passes the test is added
  abbrev pub Marks : Type 0
  Marks = (i : ℕ) → i ≤ INSTANCES → has new i ≡ (test (record { folder = f; instance = i }) || has old i)

  -- each instance whose slot passes the test is taken out
  abbrev pub Unmarks : Type 0
  Unmarks = (i : ℕ) → i ≤ INSTANCES → has new i ≡ (not (test (record { folder = f; instance = i })) && has old i)
