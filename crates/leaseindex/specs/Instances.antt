-- Sets of instances, and which instances of folders are taken.
use Rattle.std.specs.Prelude.{◌≡◌, ◌==◌, ℕ, ◌≤◌, ◌/◌, ◌%◌, Bool, false, not, List, map, filter, slice_index_or, Option, Some, None}
use Rattle.std.specs.Int.{bit_at}
use Rattle.std.specs.List.{flat_map}
use Rattle.indexmap.specs.IndexMap.{IndexMap, get, spare}
use Rattle.names.specs.Folders.{folder_eq}
use Rattle.farm_base.specs.declared.lease.Lease.{Lease}
use Rattle.names.specs.declared.limits.TheConstants.{INSTANCES}
use Rattle.protocol.specs.Names.{Slot, FolderName}
use Rattle.protocol.specs.Ledger.{some_lease}
use Rattle.holdings.specs.Leases.{among}
use Rattle.leaseindex.specs.declared.instances.Instances.{Instances}
use Rattle.leaseindex.specs.declared.taken_instances.TakenInstances.{TakenInstances}

-- the bit of a number, of 64 in each word
abbrev pub bit_in : List ℕ → ℕ → Bool
bit_in words i = bit_at (slice_index_or words (i / 64) 0) (i % 64) == 1

-- the instance is in the set
abbrev pub has : Instances → ℕ → Bool
has x i = bit_in x.words i

-- the same, where there may be no set
abbrev pub has_of : Option Instances → ℕ → Bool
has_of None i = false
has_of (Some x) i = has x i

-- the instances that an index has at a folder
abbrev pub instances_of : {S : Type 0} → IndexMap FolderName Instances S → FolderName → Option Instances
instances_of m f = get folder_eq m f

-- the index has the folder's instance
abbrev pub is_taken : TakenInstances → FolderName → ℕ → Bool
is_taken x f i = has_of (instances_of x.by_folder f) i

-- how many more folders fit in without memory
abbrev pub folder_room : TakenInstances → ℕ
folder_room x = spare x.by_folder

-- of 1 to 4,096, an instance is taken exactly if a lease has its slot
abbrev pub AreTaken : (FolderName → ℕ → Bool) → List Lease → Type 0
AreTaken taken leases = (f : FolderName) (i : ℕ) → 1 ≤ i → i ≤ INSTANCES
    → taken f i ≡ some_lease leases (record { folder = f; instance = i })

-- slots that are never granted again, as contracts see them
pub record Retired : Type 0 where
  pub slots : List Slot
  -- how many slots it can hold, those that it has among them
  pub slot_room : ℕ
  -- of how many more folders it can note instances
  pub folder_room : ℕ

-- an instance of up to 4,096 is taken exactly if its slot is among these
abbrev pub AreRetired : (FolderName → ℕ → Bool) → List Slot → Type 0
AreRetired taken slots = (f : FolderName) (i : ℕ) → i ≤ INSTANCES
    → taken f i ≡ among slots (record { folder = f; instance = i })

-- the folder and the instance of each of these slots
abbrev pub slot_names : List Slot → List (FolderName × ℕ)
slot_names slots = map (λ s. (s.folder, s.instance)) slots

-- the folder and the instance of each of these slots whose instance isn't 0
abbrev pub slot_instances : List (Slot × Bool) → List (FolderName × ℕ)
slot_instances slots = map (λ x. (x.0.folder, x.0.instance)) (filter (λ x. not (x.0.instance == 0)) slots)

-- what an index is to have of these leases
abbrev pub lease_instances : List Lease → List (FolderName × ℕ)
lease_instances leases = flat_map (λ g. slot_instances g.slots) leases
