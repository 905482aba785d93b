use Rattle.std.proofs.Common.{◌≡◌, ◌+◌, ◌≤◌, length}
use Rattle.std.specs.Vec.{vec_len, vec_capacity}
use Rattle.std.specs.Vec.Iter.{into_iter_items, into_iter_len}
use Rattle.versions.specs.Lines.{line_at}
use Rattle.versions.specs.Additions.{AreReady, adds_all}
use Rattle.versions.specs.Ordered.{AreLines}
use Rattle.versions.proofs.lines.add_all.Given as goal

abbrev pub invariant-loop-addition : goal.invariant-loop-addition
invariant-loop-addition l = record {
  can : (goal.iterator-loop-addition).can_next l.addition-iterator;
  finite : (goal.iterator-loop-addition).is_finite l.addition-iterator;
  sound : AreLines l.lines.items;
  ready : AreReady l.lines.items l.ticket (into_iter_items l.addition-iterator);
  lines : adds_all l.ticket (into_iter_items l.addition-iterator) (line_at l.lines.items) ≡ adds_all l.fn.added.ticket l.fn.added.additions.items (line_at l.fn.lines.items);
  space : vec_len l.lines + into_iter_len l.addition-iterator ≤ vec_capacity l.lines;
  count : into_iter_len l.addition-iterator ≡ length (into_iter_items l.addition-iterator);
}
