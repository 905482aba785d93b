use Rattle.std.proofs.Common.{◌≤◌, ◌-◌, length}
use Rattle.jobs.specs.ReadyLists.{AreThereBefore}
use Rattle.jobs.proofs.ready.are_there.Given as goal

abbrev pub invariant-loop-input : goal.invariant-loop-input
invariant-loop-input l = record {
  before : AreThereBefore l.table.entries.items l.cursor l.inputs;
  moves : l.fn.cursor ≤ l.cursor;
}

abbrev pub decreases-loop-input : goal.decreases-loop-input
decreases-loop-input l = length l.inputs - l.cursor
