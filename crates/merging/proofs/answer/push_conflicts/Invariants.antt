use Rattle.std.proofs.Common.{◌≡◌, ◌++◌, take, flat_map}
use Rattle.merging.specs.Answers.{conflict_text}
use Rattle.merging.proofs.answer.push_conflicts.Given as goal

abbrev pub invariant-loop-path : goal.invariant-loop-path
invariant-loop-path l = l.text.items ≡ l.fn.text.items ++ flat_map (λ path. conflict_text path.now) (take l.path-index l.paths)
