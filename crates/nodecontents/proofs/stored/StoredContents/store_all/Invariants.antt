use Rattle.std.proofs.Common.{◌≡◌, ◌+◌, ◌≤◌, length, vec_len}
use Rattle.indexmap.specs.IndexMap.{spare}
use Rattle.names.specs.Contents.{content_digest}
use Rattle.protocol.specs.Nodes.{stored}
use Rattle.nodecontents.specs.Stored.{store_in}
use Rattle.nodecontents.proofs.stored.StoredContents.store_all.Given as goal

abbrev pub invariant-loop-left : goal.invariant-loop-left
invariant-loop-left l = record {
  contents : store_in l.self.by_digest ≡ stored content_digest l.yielded (store_in l.initial.self.by_digest);
  room : vec_len l.fn.lefts ≤ spare l.self.by_digest + length l.yielded;
}
