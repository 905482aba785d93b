use Rattle.std.proofs.Common.{◌≡◌, ◌+◌, drop}
use Rattle.draw.specs.Rows.{first_row}
use Rattle.draw.proofs.rows.first_row.Given as goal

abbrev pub invariant-loop-frame : goal.invariant-loop-frame
invariant-loop-frame l = record {
  place : l.at ≡ l.row + l.frame-index;
  rest : first_row l.sought l.at (drop l.frame-index l.frames) ≡ first_row l.sought l.row l.frames;
}
