use Rattle.std.proofs.Common.{◌≡◌, ◌+◌, ◌≤◌, length, vec_len}
use Rattle.indexmap.specs.IndexMap.{spare}
use Rattle.nodecontents.specs.Stored.{store_each, store_in}
use Rattle.nodecontents.proofs.stored.StoredContents.store_each.Given as goal

abbrev pub invariant-loop-content : goal.invariant-loop-content
invariant-loop-content l = record {
  contents : store_in l.self.by_digest ≡ store_each l.yielded (store_in l.initial.self.by_digest);
  room : vec_len l.fn.contents ≤ spare l.self.by_digest + length l.yielded;
}
