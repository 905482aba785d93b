use Rattle.std.proofs.Common.{◌≡◌, ℕ, ◌+◌, ◌≤◌, ◌&&◌, ◌||◌, eqb, length, vec_len}
use Rattle.std.specs.List.{list_any}
use Rattle.names.specs.Folders.{folder_eq}
use Rattle.protocol.specs.Names.{FolderName}
use Rattle.leaseindex.specs.Instances.{is_taken, folder_room}
use Rattle.leaseindex.proofs.taken_instances.TakenInstances.add_all.Given as goal

abbrev pub invariant-loop-folder : goal.invariant-loop-folder
invariant-loop-folder l = record {
  taken : (f : FolderName) (i : ℕ) → i ≤ 4096 → is_taken l.self f i ≡ (list_any (λ e. folder_eq e.0 f && eqb e.1 i) l.yielded || is_taken l.initial.self f i);
  room : vec_len l.fn.entries ≤ folder_room l.self + length l.yielded;
}
