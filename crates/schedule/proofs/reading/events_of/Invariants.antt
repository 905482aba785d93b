use Rattle.std.proofs.Common.{◌≡◌, ◌+◌, length}
use Rattle.words.specs.Words.{texts}
use Rattle.schedule.specs.Schedules.{AreEvents}
use Rattle.schedule.proofs.reading.events_of.Given as goal

abbrev pub invariant-loop-line : goal.invariant-loop-line
invariant-loop-line l = record {
  can_go_on : (goal.iterator-loop-line).can_next l.line-iterator;
  ends : (goal.iterator-loop-line).is_finite l.line-iterator;
  number : l.number ≡ length l.yielded + 1;
  read : AreEvents (texts l.yielded) l.events.items;
}
