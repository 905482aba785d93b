use Rattle.std.proofs.Common.{◌≡◌, List, Bool, not, ◌&&◌, filter, ap, subst, sym, ◌∙◌}
use Rattle.std.specs.Prelude.{AllPairs}
use Rattle.farm_base.specs.declared.lease.Lease.{Lease}
use Rattle.holdings.specs.Endings.{ends_lease}
use Rattle.leaseindex.specs.Counts.{AreCounted, AreLast}
use Rattle.leaseindex.specs.Index.{ticket_at, AreIndexed}
use Rattle.leaseindex.specs.Instances.{is_taken, AreTaken}
use Rattle.holdings.specs.Leases.{AreLeases, IsBefore}
use Rattle.leaseindex.proofs.IndexLemmas.{indexed-last}
use Rattle.leaseindex.proofs.LastLemmas.{last-rest, last-with}
use Rattle.leaseindex.proofs.EndedLemmas.{leases-filter}
use Rattle.leaseindex.proofs.TakenLemmas.{taken-failing}
use Rattle.leaseindex.proofs.live_leases.LiveLeases.end_last.Goals as goal

pub last_ending-last-requires : goal.last_ending-last-requires
last_ending-last-requires c = record {
  rising = subst (AllPairs IsBefore) (sym c.as_slice.ensures.value) c.self.invariant.sound.tickets;
  counted = subst (AreCounted c.self.inside.counts) (sym c.as_slice.ensures.value) c.self.invariant.counted;
}

pub invariant_of-self : goal.invariant_of-self
invariant_of-self c =
    let live : List Lease = c.self.inside.leases.items in
    let test : Lease → Bool = ends_lease c.args.ending.now in
    let last : List Lease = c.last_ending-last.result.now in
    let from : AreLast test last live = subst (AreLast test last) c.as_slice.ensures.value c.last_ending-last.ensures in
    let rest : c.drop_ending_from.new.leases.items ≡ filter (λ g. not (test g)) live = c.drop_ending_from.ensures.items in
    record {
      sound = subst AreLeases (sym rest) (leases-filter (λ g. not (test g)) live c.self.invariant.sound);
      indexed = subst (AreIndexed (ticket_at c.forget_ending.new.index)) (sym rest)
          (indexed-last test (ticket_at c.self.inside.by_folder) (ticket_at c.forget_ending.new.index) last live c.self.invariant.sound.tickets from c.forget_ending.ensures.others c.self.invariant.indexed);
      taken_is = subst (AreTaken (is_taken c.remove_ending.new.self)) (sym rest)
          (taken-failing test (is_taken c.self.inside.taken) (is_taken c.remove_ending.new.self) live c.self.invariant.sound.apart c.self.invariant.taken_is
          (λ f i to. c.remove_ending.ensures.free f i to ∙ ap (λ (b : Bool). not b && is_taken c.self.inside.taken f i) (last-with test (record { folder = f; instance = i }) last live from)));
      counted = subst (AreCounted c.remove_ending-2.new.self) (sym (rest ∙ last-rest test last live from))
          (c.remove_ending-2.ensures.counted from.before (subst (AreCounted c.self.inside.counts) from.whole c.self.invariant.counted));
    }
