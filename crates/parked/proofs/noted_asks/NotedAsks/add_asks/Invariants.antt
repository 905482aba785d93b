use Rattle.std.proofs.Common.{drop}
use Rattle.parked.specs.Numbers.{numbers_from}
use Rattle.parked.specs.Noted.{AreIndexed, Keeps}
use Rattle.parked.specs.declared.noted_asks.NotedAsks.{NotedAsks}
use Rattle.parked.proofs.noted_asks.NotedAsks.add_asks.Given as goal

abbrev pub invariant-loop-p : goal.invariant-loop-p
invariant-loop-p l = record {
  added : (y : NotedAsks) → Keeps l.self y → AreIndexed y (drop l.p-index l.asks) (numbers_from l.number (drop l.p-index l.asks)) → AreIndexed y l.asks (numbers_from l.from l.asks);
  kept : Keeps l.initial.self l.self;
}
