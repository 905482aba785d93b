use Rattle.std.proofs.Common.{◌≡◌, drop}
use Rattle.holdings.specs.Lives.{life_at}
use Rattle.saverecord.specs.Logs.{with_lives}
use Rattle.saverecord.proofs.folding.with_lives.Given as goal

abbrev pub invariant-loop-seen : goal.invariant-loop-seen
invariant-loop-seen l = with_lives (drop l.seen-index l.began) (life_at l.lives.seen) ≡ with_lives l.began (life_at l.fn.lives.seen)
