use Rattle.std.proofs.Common.{not, ap}
use Rattle.std.specs.List.{flat_map}
use Rattle.farm_base.specs.declared.lease.Lease.{Lease}
use Rattle.holdings.specs.Endings.{ends_lease, has_ended}
use Rattle.leases.proofs.ChangeLemmas.{filter_both}
use Rattle.leases.proofs.slots.slots_ended.Goals as goal

pub loop-lease-init : goal.loop-lease-init
loop-lease-init c = rw c.new-slots.ensures.items (ap (flat_map (λ (g : Lease). g.slots)) (filter_both (ends_lease c.args.ending) (λ g. not (has_ended c.args.ended.now g)) c.args.leases.now))
