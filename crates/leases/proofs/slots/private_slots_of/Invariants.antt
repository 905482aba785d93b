use Rattle.std.proofs.Common.{◌≡◌, ◌++◌, ◌&&◌, not, drop, filter}
use Rattle.protocol.specs.Ledger.{is_at}
use Rattle.holdings.specs.Endings.{has_ended}
use Rattle.leases.specs.Table.{all_private}
use Rattle.leases.proofs.slots.private_slots_of.Given as goal

abbrev pub invariant-loop-lease : goal.invariant-loop-lease
invariant-loop-lease l =
    l.private.items ++ all_private (filter (λ g. is_at l.node g && not (has_ended l.ended g)) (drop l.lease-index l.leases)) ≡ all_private (filter (is_at l.node) (filter (λ g. not (has_ended l.ended g)) l.leases))
