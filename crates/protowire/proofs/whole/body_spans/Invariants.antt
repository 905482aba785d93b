use Rattle.std.proofs.Common.{◌≡◌, ℕ, ◌+◌, ◌≤◌, List, length, take}
use Rattle.protowire.specs.BodyLists.{AreWithin, pieces}
use Rattle.protowire.specs.Lookups.{bodies_of}
use Rattle.protowire.proofs.BodyLoop.{with_bodies}
use Rattle.protowire.proofs.SpanLemmas.{IsSeen}
use Rattle.protowire.proofs.whole.body_spans.Given as goal

abbrev pub invariant-loop-rest : goal.invariant-loop-rest
invariant-loop-rest l = record {
  within : l.count + length l.rest ≤ length l.message;
  seen : IsSeen l.message l.rest;
  spans : AreWithin (length l.message) l.spans.items;
  so_far : (front : List (List ℕ)) × (length front ≡ l.count) × (pieces l.message l.spans.items ≡ take l.most front) × (with_bodies l.number front l.rest ≡ bodies_of l.number l.message);
}

abbrev pub decreases-loop-rest : goal.decreases-loop-rest
decreases-loop-rest l = length l.rest
