use Rattle.std.proofs.Common.{◌≡◌, ℕ, ◌≤◌, ◌&&◌, not, drop}
use Rattle.protocol.specs.Names.{FolderName}
use Rattle.protocol.specs.Ledger.{has_slot}
use Rattle.leaseindex.specs.Instances.{is_taken, folder_room}
use Rattle.leaseindex.proofs.taken_instances.TakenInstances.remove_lease.Given as goal

abbrev pub invariant-loop-held : goal.invariant-loop-held
invariant-loop-held l = record {
  free : (f : FolderName) (i : ℕ) → i ≤ 4096
      → (not (has_slot (drop l.held-index l.held-items) (record { folder = f; instance = i })) && is_taken l.self f i) ≡ (not (has_slot l.held-items (record { folder = f; instance = i })) && is_taken l.initial.self f i);
  room : folder_room l.initial.self ≤ folder_room l.self;
}
