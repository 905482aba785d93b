use Rattle.std.proofs.Common.{◌≡◌, ◌++◌, ◌+◌, ◌-◌, filter}
use Rattle.std.specs.List.{range_with_len, list_any}
use Rattle.draw.specs.Lifelines.{is_in, lines_of}
use Rattle.draw.proofs.lifelines.lines_of.Given as goal

abbrev pub invariant-loop-place : goal.invariant-loop-place
invariant-loop-place l = l.lines.items ++ filter (λ n. list_any (is_in n) l.frames) (range_with_len (l.place + 1) (l.nodes - l.place)) ≡ lines_of l.nodes l.frames
