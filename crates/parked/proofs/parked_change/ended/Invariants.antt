use Rattle.std.proofs.Common.{◌≡◌, ◌<◌, ◌≤◌, ◌-◌, ◌++◌, ℕ, List, drop, filter, get_or, length, not}
use Rattle.parked.specs.Over.{Begins, still_at}
use Rattle.parked.specs.Waiting.{ends_ask}
use Rattle.parked.proofs.parked_change.ended.Given as goal

-- places that are right for the asks that are left are so, behind those that are there, for all
abbrev pub invariant-loop-place : goal.invariant-loop-place
invariant-loop-place l = record {
  inside : l.place ≤ length l.parked;
  below : (k : ℕ) → k < length l.done.places.items → get_or l.done.places.items k 0 < l.place;
  done : (ms : List ℕ) → Begins l.place ms
      → still_at l.place ms (drop l.place l.parked) ≡ filter (λ p. not (ends_ask l.ending p)) (still_at l.place l.rest (drop l.place l.parked))
      → still_at 0 (l.done.places.items ++ ms) l.parked ≡ filter (λ p. not (ends_ask l.ending p)) (still_at 0 l.over l.parked);
}

abbrev pub decreases-loop-place : goal.decreases-loop-place
decreases-loop-place l = length l.parked - l.place
