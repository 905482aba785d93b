use Rattle.std.proofs.Common.{◌≡◌, ◌++◌, List, map}
use Rattle.std.specs.Vec.Iter.{into_iter_items}
use Rattle.protocol.specs.Machine.{FromCoord, Told}
use Rattle.coordinatorfilter.proofs.printing.told.Given as goal

abbrev pub invariant-loop-message : goal.invariant-loop-message
invariant-loop-message l = record {
  can : (goal.iterator-loop-message).can_next l.message-iterator;
  finite : (goal.iterator-loop-message).is_finite l.message-iterator;
  told : (done : List FromCoord) × (l.fn.sends ≡ done ++ into_iter_items l.message-iterator) × (l.messages.items ≡ map Told done);
}
