use Rattle.std.proofs.Common.{subst, []}
use Rattle.leaseindex.specs.Counts.{AreCounted}
use Rattle.leaseindex.specs.Index.{ticket_at, AreIndexed}
use Rattle.leaseindex.specs.Instances.{is_taken, AreTaken}
use Rattle.leaseindex.proofs.live_leases.LiveLeases.of.Goals as goal

pub invariant_of-result : goal.invariant_of-result
invariant_of-result c = record {
  sound = c.requires;
  indexed = subst (AreIndexed (ticket_at c.in_ok-by_folder.by_folder)) c.as_slice.ensures.value c.in_ok-by_folder.ensures;
  taken_is = subst (AreTaken (is_taken c.in_ok-taken.taken)) c.as_slice-2.ensures.value c.in_ok-taken.ensures;
  counted = subst (AreCounted c.add_all.new.self) c.as_slice-3.ensures.value (c.add_all.ensures [] (c.in_ok-reserve.ensures.same [] c.new-counts.ensures));
}
