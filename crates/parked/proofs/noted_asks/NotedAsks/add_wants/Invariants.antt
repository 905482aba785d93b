use Rattle.std.proofs.Common.{◌≡◌, ℕ, ◌<◌, true, get_or}
use Rattle.protocol.specs.Names.{Want}
use Rattle.parked.specs.Noted.{notes_want, Keeps}
use Rattle.parked.proofs.noted_asks.NotedAsks.add_wants.Given as goal

abbrev pub invariant-loop-want : goal.invariant-loop-want
invariant-loop-want l = record {
  added : (k : ℕ) (d : Want) → k < l.want-index → notes_want l.self (get_or l.wants k d).folder l.number ≡ true;
  kept : Keeps l.initial.self l.self;
}
