use Rattle.std.proofs.Common.{◌≡◌}
use Rattle.farm.proofs.worker_steps.BoardClient.settle_ask.Given as goal

-- it is an ask for the same
abbrev pub invariant-loop : goal.invariant-loop
invariant-loop g l =
    (goal.iterator-loop g).can_next l.iterator' × (goal.iterator-loop g).is_finite l.iterator' × (l.asked.wants ≡ l.fn.first.wants)
