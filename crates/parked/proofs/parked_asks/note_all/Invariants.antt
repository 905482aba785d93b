use Rattle.std.proofs.Common.{◌≡◌, ◌<◌, ◌≤◌, ◌+◌, ℕ, true, length, get_or}
use Rattle.protocol.specs.Machine.{Parked}
use Rattle.parked.specs.Newest.{knows, node_room}
use Rattle.parked.proofs.parked_asks.note_all.Given as goal

abbrev pub invariant-loop-p : goal.invariant-loop-p
invariant-loop-p l = record {
  room : length l.asks ≤ node_room l.newest + l.p-index;
  known : (k : ℕ) (d : Parked) → k < l.p-index → knows l.newest (get_or l.asks k d).node (get_or l.asks k d).life (get_or l.asks k d).ask ≡ true;
  others : (q : Parked) → knows l.initial.newest q.node q.life q.ask ≡ true → knows l.newest q.node q.life q.ask ≡ true;
}
