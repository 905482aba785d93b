use Rattle.std.proofs.Common.{◌≡◌, ◌+◌, ◌≤◌, ◌++◌, length, map}
use Rattle.std.specs.Vec.{vec_len, vec_capacity}
use Rattle.std.specs.Vec.Iter.{into_iter_items, into_iter_len}
use Rattle.protocol.specs.Machine.{Told}
use Rattle.world.proofs.pool.add_all.Given as goal

abbrev pub invariant-loop-message : goal.invariant-loop-message
invariant-loop-message l = record {
  can : (goal.iterator-loop-message).can_next l.message-iterator;
  finite : (goal.iterator-loop-message).is_finite l.message-iterator;
  sent : l.pool.items ++ map Told (into_iter_items l.message-iterator) ≡ l.fn.pool.items ++ map Told l.fn.sends.items;
  space : vec_len l.pool + into_iter_len l.message-iterator ≤ vec_capacity l.pool;
  count : into_iter_len l.message-iterator ≡ length (into_iter_items l.message-iterator);
}
