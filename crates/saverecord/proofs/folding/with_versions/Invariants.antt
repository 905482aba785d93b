use Rattle.std.proofs.Common.{◌≡◌, length}
use Rattle.std.specs.Vec.Iter.{into_iter_items, into_iter_len}
use Rattle.versions.specs.Lines.{line_at}
use Rattle.saverecord.specs.Logs.{with_versions}
use Rattle.saverecord.proofs.folding.with_versions.Given as goal

abbrev pub invariant-loop-line : goal.invariant-loop-line
invariant-loop-line l = record {
  can : (goal.iterator-loop-line).can_next l.line-iterator;
  finite : (goal.iterator-loop-line).is_finite l.line-iterator;
  lines : with_versions (into_iter_items l.line-iterator) (line_at l.lines) ≡ with_versions l.fn.more.items (line_at l.fn.lines);
  count : into_iter_len l.line-iterator ≡ length (into_iter_items l.line-iterator);
}
