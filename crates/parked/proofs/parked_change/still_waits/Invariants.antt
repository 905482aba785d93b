use Rattle.std.proofs.Common.{◌≡◌, ◌≤◌, ◌-◌, drop, length}
use Rattle.protocol.specs.Ledger.{is_parked}
use Rattle.parked.specs.Over.{still_at}
use Rattle.parked.proofs.parked_change.still_waits.Given as goal

abbrev pub invariant-loop-place : goal.invariant-loop-place
invariant-loop-place l = record {
  inside : l.place ≤ length l.parked;
  same : is_parked (still_at l.place l.rest (drop l.place l.parked)) l.node l.life l.ask ≡ is_parked (still_at 0 l.over l.parked) l.node l.life l.ask;
}

abbrev pub decreases-loop-place : goal.decreases-loop-place
decreases-loop-place l = length l.parked - l.place
