use Rattle.std.proofs.Common.{◌≡◌, ℕ, true, List, Some, None, take}
use Rattle.std.specs.List.{Contains}
use Rattle.nodecore.specs.Shown.{shown}
use Rattle.protocol.specs.Names.{Digest}
use Rattle.nodestore.specs.Stores.{StayKept}
use Rattle.nodefilter.proofs.carrying.keep_each.Given as goal

abbrev pub invariant-loop-digest : goal.invariant-loop-digest
invariant-loop-digest g l = record {
  kept : (d : Digest) (c : List ℕ) → Contains (take l.digest-index l.digests) d → (shown l.core).store d ≡ Some c → g.S.Store.kept l.store d ≡ true;
  others : StayKept g.S.Store.kept None l.fn.store l.store;
  life : g.S.Store.last_life l.store ≡ g.S.Store.last_life l.fn.store;
}
