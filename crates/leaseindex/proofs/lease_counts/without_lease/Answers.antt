use Rattle.std.proofs.Common.{◌-◌, ◌++◌, ◌∷◌, Option, Some, ap, subst, arith}
use Rattle.std.specs.Option.{option_copied}
use Rattle.leaseindex.specs.Counts.{Counts}
use Rattle.leaseindex.specs.declared.lease_counts.LeaseCount.{LeaseCount}
use Rattle.leaseindex.proofs.CountLemmas.{counts-less}
use Rattle.leaseindex.proofs.lease_counts.without_lease.Goals as goal

pub returns-then-count-lt18446744073709551615-clause-counts : goal.returns-then-count-lt18446744073709551615-clause-counts
returns-then-count-lt18446744073709551615-clause-counts c front g back h =
    counts-less (Some c.in_ok-count.count.now) (Some (record { times = c.in_ok-count.count.now.times - 1; oldest = c.in_ok-count.count.now.oldest })) front g back (λ lt. (omega arith, omega arith)) (omega arith)
    (subst (λ (o : Option LeaseCount). Counts o (front ++ g ∷ back)) (ap option_copied c.in_ok-count.was) h)

pub returns-else-count-lt18446744073709551615-clause-counts : goal.returns-else-count-lt18446744073709551615-clause-counts
returns-else-count-lt18446744073709551615-clause-counts c front g back h =
    counts-less (Some c.in_ok-count.count.now) (Some c.in_ok-count.count.now) front g back (λ lt. absurd (omega arith)) (omega arith)
    (subst (λ (o : Option LeaseCount). Counts o (front ++ g ∷ back)) (ap option_copied c.in_ok-count.was) h)
