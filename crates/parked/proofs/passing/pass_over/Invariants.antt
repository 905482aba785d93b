use Rattle.std.proofs.Common.{◌≡◌, ◌+◌, ◌<◌, ◌≤◌, ℕ, drop, get_or, vec_len}
use Rattle.std.specs.Vec.{vec_capacity}
use Rattle.parked.specs.Over.{Begins, still_at}
use Rattle.parked.proofs.passing.pass_over.Given as goal

abbrev pub invariant-loop-place : goal.invariant-loop-place
invariant-loop-place g l = record {
  places : l.left ≤ vec_len l.over.places;
  ahead : Begins l.place (drop l.left l.over.places.items);
  before : (k : ℕ) → k < l.left → get_or l.over.places.items k 0 < l.place;
  inside : l.start + l.place ≤ l.first;
  first : l.first ≤ vec_len l.items;
  len : vec_len l.items ≡ vec_len l.initial.items;
  capacity : vec_capacity l.items ≡ vec_capacity l.initial.items;
  left : drop l.first l.items.items ≡ still_at l.place (drop l.left l.over.places.items) (drop (l.start + l.place) l.initial.items.items);
  same : (k : ℕ) (d : _) → k < l.start + l.place → get_or l.items.items k d ≡ get_or l.initial.items.items k d;
}

abbrev pub decreases-loop-place : goal.decreases-loop-place
decreases-loop-place g l = l.place
