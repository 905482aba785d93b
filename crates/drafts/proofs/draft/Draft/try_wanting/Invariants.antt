use Rattle.std.proofs.Common.{◌≡◌, ◌<◌, ◌≤◌, ◌-◌, ◌++◌, ℕ, List, drop, get_or, length}
use Rattle.protocol.specs.Farm.{farm_limits}
use Rattle.protocol.specs.Lists.{In}
use Rattle.protocol.specs.Machine.{Parked}
use Rattle.protocol.specs.Ledger.{try_all, waiting, is_free}
use Rattle.drafts.specs.Idle.{AreIdle}
use Rattle.parked.specs.Over.{Begins, AreRising, still_at}
use Rattle.parked.specs.Queue.{asks_of}
use Rattle.drafts.specs.Shown.{work}
use Rattle.effects.specs.Sound.{IsSound}
use Rattle.effects.specs.Spent.{IsNoted}
use Rattle.drafts.proofs.draft.Draft.try_wanting.Given as goal

abbrev pub invariant-loop-place : goal.invariant-loop-place
invariant-loop-place l = record {
  inside : l.place ≤ length (asks_of l.initial.self.base.now.parked);
  below : (k : ℕ) → k < length l.done.places.items → get_or l.done.places.items k 0 < l.place;
  begins : Begins l.place l.rest;
  rising : AreRising l.rest;
  base : l.self.base.now ≡ l.initial.self.base.now;
  added : l.self.effects.value.added ≡ l.initial.self.effects.value.added;
  so_far : try_all farm_limits (still_at l.place l.rest (drop l.place (asks_of l.initial.self.base.now.parked))) (work l.self)
      ≡ try_all farm_limits (still_at 0 l.over.places.items (asks_of l.initial.self.base.now.parked)) (work l.initial.self);
  stay : (os : List ℕ) → Begins l.place os
      → still_at l.place os (drop l.place (asks_of l.initial.self.base.now.parked)) ≡ waiting farm_limits (still_at l.place l.rest (drop l.place (asks_of l.initial.self.base.now.parked))) (work l.self)
      → still_at 0 (l.done.places.items ++ os) (asks_of l.initial.self.base.now.parked) ≡ waiting farm_limits (still_at 0 l.over.places.items (asks_of l.initial.self.base.now.parked)) (work l.initial.self);
  sound : IsSound (work l.self).ledger;
  noted : (p : Parked) → In p (asks_of l.initial.self.base.now.parked) → IsNoted l.spent.folders.items (is_free (work l.self).ledger) p;
  idle : AreIdle l.freed.items (work l.self).ledger (still_at l.place l.rest (drop l.place (asks_of l.initial.self.base.now.parked)));
}

abbrev pub decreases-loop-place : goal.decreases-loop-place
decreases-loop-place l = length (asks_of l.initial.self.base.now.parked) - l.place
