use Rattle.std.proofs.Common.{◌≡◌, drop}
use Rattle.coordinator.specs.Held.{life_at}
use Rattle.coordinatorfilter.proofs.carrying.life_seen.Given as goal

abbrev pub invariant-loop-seen : goal.invariant-loop-seen
invariant-loop-seen l = life_at l.lives l.node.0 ≡ life_at (drop l.seen-index l.lives) l.node.0
