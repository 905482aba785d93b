use Rattle.std.proofs.Common.{◌<◌, ◌≤◌, get_or, vec_len}
use Rattle.parked.proofs.passing.count_inside.Given as goal

abbrev pub invariant-loop-left : goal.invariant-loop-left
invariant-loop-left l = record {
  inside : l.left ≤ vec_len l.over.places;
  behind : l.left < vec_len l.over.places → l.count ≤ get_or l.over.places.items l.left 0;
}

abbrev pub decreases-loop-left : goal.decreases-loop-left
decreases-loop-left l = l.left
