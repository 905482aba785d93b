use Rattle.std.proofs.Common.{◌≡◌, ◌++◌, take, flat_map}
use Rattle.merging.specs.Answers.{picked_text}
use Rattle.merging.specs.Views.{picked}
use Rattle.merging.proofs.answer.push_lines.Given as goal

abbrev pub invariant-loop-line : goal.invariant-loop-line
invariant-loop-line l = l.text.items ≡ l.fn.text.items ++ flat_map (λ line. picked_text (picked line)) (take l.line-index l.lines)
