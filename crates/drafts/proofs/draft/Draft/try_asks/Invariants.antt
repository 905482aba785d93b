use Rattle.std.proofs.Common.{◌≡◌, ◌<◌, ◌≤◌, ◌-◌, ◌++◌, ℕ, List, drop, get_or, length}
use Rattle.protocol.specs.Farm.{farm_limits}
use Rattle.protocol.specs.Ledger.{try_all, waiting}
use Rattle.parked.specs.Over.{Begins, still_at}
use Rattle.drafts.specs.Shown.{work}
use Rattle.effects.specs.Sound.{IsSound}
use Rattle.drafts.proofs.draft.Draft.try_asks.Given as goal

abbrev pub invariant-loop-place : goal.invariant-loop-place
invariant-loop-place l = record {
  inside : l.place ≤ length l.asks;
  below : (k : ℕ) → k < length l.done.places.items → get_or l.done.places.items k 0 < l.place;
  base : l.self.base.now ≡ l.initial.self.base.now;
  added : l.self.effects.value.added ≡ l.initial.self.effects.value.added;
  so_far : try_all farm_limits (still_at l.place l.rest (drop l.place l.asks)) (work l.self) ≡ try_all farm_limits (still_at 0 l.over l.asks) (work l.initial.self);
  stay : (os : List ℕ) → Begins l.place os
      → still_at l.place os (drop l.place l.asks) ≡ waiting farm_limits (still_at l.place l.rest (drop l.place l.asks)) (work l.self)
      → still_at 0 (l.done.places.items ++ os) l.asks ≡ waiting farm_limits (still_at 0 l.over l.asks) (work l.initial.self);
  sound : IsSound (work l.self).ledger;
}

abbrev pub decreases-loop-place : goal.decreases-loop-place
decreases-loop-place l = length l.asks - l.place
