use Rattle.parked.specs.Noted.{KeepsOf}
use Rattle.parked.proofs.noted_asks.NotedAsks.drop_wants.Given as goal

abbrev pub invariant-loop-want : goal.invariant-loop-want
invariant-loop-want l = KeepsOf l.waiting l.initial.self l.self
