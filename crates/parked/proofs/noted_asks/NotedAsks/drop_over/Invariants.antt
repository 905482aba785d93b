use Rattle.parked.specs.Noted.{KeepsOf}
use Rattle.parked.proofs.noted_asks.NotedAsks.drop_over.Given as goal

abbrev pub invariant-loop-place : goal.invariant-loop-place
invariant-loop-place l = KeepsOf l.waiting l.initial.self l.self
