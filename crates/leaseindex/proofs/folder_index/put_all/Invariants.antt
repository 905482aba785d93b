use Rattle.std.proofs.Common.{◌≡◌, ◌+◌, ◌≤◌, length, vec_len}
use Rattle.std.specs.Map.{update_all}
use Rattle.indexmap.specs.IndexMap.{spare}
use Rattle.names.specs.Folders.{folder_eq}
use Rattle.leaseindex.specs.Index.{ticket_at}
use Rattle.leaseindex.proofs.folder_index.put_all.Given as goal

abbrev pub invariant-loop-folder : goal.invariant-loop-folder
invariant-loop-folder l = record {
  tickets : ticket_at l.index ≡ update_all folder_eq (ticket_at l.initial.index) l.yielded;
  room : vec_len l.fn.entries ≤ spare l.index + length l.yielded;
}
