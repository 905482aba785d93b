use Rattle.std.proofs.Common.{◌≡◌, ◌++◌, ◌+◌, length}
use Rattle.draw.specs.Marks.{pass_marks, all_of}
use Rattle.draw.proofs.marking.push_pass.Given as goal

abbrev pub invariant-rows : goal.invariant-rows
invariant-rows l = record {
  marks : l.marks.items ++ pass_marks l.pass l.scene l.before l.row l.left ≡ l.fn.marks.items ++ all_of l.pass l.scene;
  count : l.row + length l.left ≡ length l.scene.frames;
}

abbrev pub decreases-rows : goal.decreases-rows
decreases-rows l = length l.left
