use Rattle.std.proofs.Common.{◌≡◌, not, drop, filter}
use Rattle.std.specs.List.{find}
use Rattle.std.specs.Option.{option_copied}
use Rattle.holdings.specs.Endings.{has_ended}
use Rattle.leaseindex.specs.Live.{older, holds_some}
use Rattle.holdings.specs.Leases.{takes}
use Rattle.leaseindex.proofs.live_leases.LiveLeases.oldest_beside.Given as goal

abbrev pub invariant-loop-want : goal.invariant-loop-want
invariant-loop-want l =
    older (option_copied l.oldest) (find (holds_some (filter (takes l.tenure) (drop l.want-index l.wants))) (filter (λ g. not (has_ended l.ended g)) l.self.leases))
    ≡ find (holds_some (filter (takes l.tenure) l.wants)) (filter (λ g. not (has_ended l.ended g)) l.self.leases)
