use Rattle.std.proofs.Common.{◌≡◌, ◌++◌, ◌&&◌, not, drop, filter}
use Rattle.std.specs.List.{flat_map}
use Rattle.holdings.specs.Endings.{ends_lease, has_ended}
use Rattle.leases.specs.Changes.{slots_ended}
use Rattle.leases.proofs.slots.slots_ended.Given as goal

abbrev pub invariant-loop-lease : goal.invariant-loop-lease
invariant-loop-lease l =
    l.slots.items ++ flat_map (λ g. g.slots) (filter (λ g. ends_lease l.ending g && not (has_ended l.ended g)) (drop l.lease-index l.leases)) ≡ slots_ended l.ending (filter (λ g. not (has_ended l.ended g)) l.leases)
