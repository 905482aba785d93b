use Rattle.std.proofs.Common.{not, ap}
use Rattle.protocol.specs.Ledger.{is_at}
use Rattle.holdings.specs.Endings.{has_ended}
use Rattle.leases.specs.Table.{all_private}
use Rattle.leases.proofs.ChangeLemmas.{filter_both}
use Rattle.leases.proofs.slots.private_slots_of.Goals as goal

pub loop-lease-init : goal.loop-lease-init
loop-lease-init c = rw c.new-private.ensures.items (ap all_private (filter_both (is_at c.args.node) (λ g. not (has_ended c.args.ended.now g)) c.args.leases.now))
