use Rattle.std.proofs.Common.{◌≡◌, ◌≤◌, ◌<◌, ℕ, true, get_or}
use Rattle.protocol.specs.Names.{Slot}
use Rattle.std.specs.Prelude.{Bool}
use Rattle.parked.specs.Noted.{notes_want, Reaches}
use Rattle.parked.proofs.noted_asks.NotedAsks.first_of_slots.Given as goal

abbrev pub invariant-loop-held : goal.invariant-loop-held
invariant-loop-held l = (n : ℕ) (k : ℕ) (d : Slot × Bool) → l.from ≤ n → k < l.held-index → notes_want l.self (get_or l.slots k d).0.folder n ≡ true → Reaches l.first n
