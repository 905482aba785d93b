use Rattle.std.proofs.Common.{◌≡◌, List, ◌++◌}
use Rattle.std.specs.String.{string_bytes}
use Rattle.commands.specs.Acts.{File, AnswersAll}
use Rattle.commands.proofs.acts.act.Given as goal

-- the text is what is printed for the files so far
abbrev pub invariant-loop-name : goal.invariant-loop-name
invariant-loop-name g l = record {
  can_next : (goal.iterator-loop-name g).can_next l.name-iterator;
  is_finite : (goal.iterator-loop-name g).is_finite l.name-iterator;
  same : l.err ≡ l.fn.err;
  so_far : (done : List File) × (done ++ l.name-iterator.rest.items ≡ l.fn.files.items) × AnswersAll l.command done (string_bytes l.all);
}
