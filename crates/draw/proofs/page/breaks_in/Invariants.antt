use Rattle.std.proofs.Common.{◌≡◌, ◌≤◌, ◌+◌, drop}
use Rattle.std.specs.Prelude.{count_by}
use Rattle.draw.specs.Pages.{is_break}
use Rattle.draw.proofs.page.breaks_in.Given as goal

abbrev pub invariant-loop-byte : goal.invariant-loop-byte
invariant-loop-byte l = record {
  few : l.count ≤ l.byte-index;
  rest : l.count + count_by is_break (drop l.byte-index l.bytes) ≡ count_by is_break l.bytes;
}
