use Rattle.std.proofs.Common.{◌≡◌, suc, List, Bool, Some, not, ◌&&◌, ap, subst, sym, ◌∙◌, length, take, drop, arith}
use Rattle.std.specs.Prelude.{AllPairs}
use Rattle.std.specs.List.{find, position_from}
use Rattle.farm_base.specs.declared.lease.Lease.{Lease}
use Rattle.protocol.specs.Ledger.{has_ticket, without}
use Rattle.leaseindex.specs.Counts.{AreCounted}
use Rattle.leaseindex.specs.Index.{ticket_at, AreIndexed}
use Rattle.leaseindex.specs.Instances.{is_taken, AreTaken}
use Rattle.holdings.specs.Leases.{AreLeases, IsBefore}
use Rattle.leaseindex.proofs.IndexLemmas.{indexed-ended}
use Rattle.leaseindex.proofs.CountLemmas.{split_at}
use Rattle.leaseindex.proofs.FindLemmas.{ticket_once}
use Rattle.leaseindex.proofs.TakenLemmas.{taken-failing, any_with-once}
use Rattle.holdings.proofs.LeaseLemmas.{StandsAt, stands, missing}
use Rattle.leaseindex.proofs.EndedLemmas.{leases-filter}
use Rattle.leaseindex.proofs.live_leases.LiveLeases.end.Goals as goal

pub place_of-requires : goal.place_of-requires
place_of-requires c = subst (AllPairs IsBefore) (sym c.as_slice.ensures.value) c.self.invariant.sound.tickets

pub returns-in-None-clause-ended : goal.returns-in-None-clause-ended
returns-in-None-clause-ended c =
    rw (← c.self.view_is) (sym (missing c.args.ticket c.self.inside.leases.items 0 (ap (position_from (has_ticket c.args.ticket) 0) (sym c.as_slice.ensures.value) ∙ sym c.place_of.ensures ∙ c.in-None.is)).0)

pub returns-in-None-clause-rest : goal.returns-in-None-clause-rest
returns-in-None-clause-rest c =
    rw (← c.self.view_is) (sym (missing c.args.ticket c.self.inside.leases.items 0 (ap (position_from (has_ticket c.args.ticket) 0) (sym c.as_slice.ensures.value) ∙ sym c.place_of.ensures ∙ c.in-None.is)).1)

pub remove-lease-requires : goal.remove-lease-requires
remove-lease-requires c =
    let s : StandsAt c.args.ticket c.self.inside.leases.items c.in-Some.place = stands _ _ _ (ap (position_from (has_ticket c.args.ticket) 0) (sym c.as_slice.ensures.value) ∙ sym c.place_of.ensures ∙ c.in-Some.is) in
    omega (arith, s.inside, ap length c.as_slice.ensures.value, c.as_slice.ensures.len)

pub returns-in-Some-clause-ended : goal.returns-in-Some-clause-ended
returns-in-Some-clause-ended c =
    let s : StandsAt c.args.ticket c.self.inside.leases.items c.in-Some.place = stands _ _ _ (ap (position_from (has_ticket c.args.ticket) 0) (sym c.as_slice.ensures.value) ∙ sym c.place_of.ensures ∙ c.in-Some.is) in
    rw (← c.self.view_is) (ap (λ g. Some g) c.remove-lease.ensures.value ∙ sym (s.found c.remove-lease.result))

pub returns-in-Some-clause-rest : goal.returns-in-Some-clause-rest
returns-in-Some-clause-rest c =
    let s : StandsAt c.args.ticket c.self.inside.leases.items c.in-Some.place = stands _ _ _ (ap (position_from (has_ticket c.args.ticket) 0) (sym c.as_slice.ensures.value) ∙ sym c.place_of.ensures ∙ c.in-Some.is) in
    rw (← c.self.view_is) (c.remove-lease.ensures.items ∙ s.rest c.self.invariant.sound.tickets)

pub invariant_of-self : goal.invariant_of-self
invariant_of-self c =
    let s : StandsAt c.args.ticket c.self.inside.leases.items c.in-Some.place = stands _ _ _ (ap (position_from (has_ticket c.args.ticket) 0) (sym c.as_slice.ensures.value) ∙ sym c.place_of.ensures ∙ c.in-Some.is) in
    let live : List Lease = c.self.inside.leases.items in
    let rest : c.remove-lease.new.self.items ≡ without c.args.ticket live = c.remove-lease.ensures.items ∙ s.rest c.self.invariant.sound.tickets in
    let found : find (has_ticket c.args.ticket) live ≡ Some c.remove-lease.result = s.found c.remove-lease.result ∙ sym (ap (λ g. Some g) c.remove-lease.ensures.value) in
    record {
      sound = subst AreLeases (sym rest) (leases-filter (λ g. not (has_ticket c.args.ticket g)) live c.self.invariant.sound);
      indexed = subst (AreIndexed (ticket_at c.forget.new.index)) (sym rest)
          (indexed-ended (ticket_at c.self.inside.by_folder) (ticket_at c.forget.new.index) c.args.ticket live c.remove-lease.result found c.forget.ensures.others c.self.invariant.indexed);
      taken_is = subst (AreTaken (is_taken c.remove_lease.new.self)) (sym rest)
          (taken-failing (has_ticket c.args.ticket) (is_taken c.self.inside.taken) (is_taken c.remove_lease.new.self) live c.self.invariant.sound.apart c.self.invariant.taken_is
          (λ f i to. c.remove_lease.ensures.free f i to
          ∙ ap (λ (b : Bool). not b && is_taken c.self.inside.taken f i)
          (sym (any_with-once (has_ticket c.args.ticket) live (record { folder = f; instance = i }) c.remove-lease.result (ticket_once c.args.ticket live c.self.invariant.sound.tickets) found))));
      counted = subst (AreCounted c.remove.new.self) (sym c.remove-lease.ensures.items)
          (c.remove.ensures.counted (take c.in-Some.place live) (drop (suc c.in-Some.place) live) (subst (AreCounted c.self.inside.counts) (split_at live c.in-Some.place c.remove-lease.result s.inside c.remove-lease.ensures.value) c.self.invariant.counted));
    }
