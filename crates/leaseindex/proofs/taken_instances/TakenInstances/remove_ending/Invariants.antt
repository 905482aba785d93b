use Rattle.std.proofs.Common.{◌≡◌, ℕ, ◌≤◌, ◌&&◌, not, drop}
use Rattle.protocol.specs.Names.{FolderName}
use Rattle.holdings.specs.Endings.{ends_lease}
use Rattle.leaseindex.specs.Instances.{is_taken, folder_room}
use Rattle.leaseindex.proofs.TakenLemmas.{any_with}
use Rattle.leaseindex.proofs.taken_instances.TakenInstances.remove_ending.Given as goal

abbrev pub invariant-loop-lease : goal.invariant-loop-lease
invariant-loop-lease l = record {
  free : (f : FolderName) (i : ℕ) → i ≤ 4096
      → (not (any_with (ends_lease l.ending) (drop l.lease-index l.leases) (record { folder = f; instance = i })) && is_taken l.self f i)
      ≡ (not (any_with (ends_lease l.ending) l.leases (record { folder = f; instance = i })) && is_taken l.initial.self f i);
  room : folder_room l.initial.self ≤ folder_room l.self;
}
