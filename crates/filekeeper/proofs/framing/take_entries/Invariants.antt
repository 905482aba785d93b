use Rattle.std.proofs.Common.{◌≡◌, ◌+◌, ◌≤◌, [], length}
use Rattle.filekeeper.proofs.FramingLemmas.{SoFar}
use Rattle.filekeeper.proofs.framing.take_entries.Given as goal

-- what was taken so far; and what is left of the bytes gets shorter each time
abbrev pub invariant-loop-number : goal.invariant-loop-number
invariant-loop-number l = record {
  none : l.bytes ≡ [] → l.log ≡ l.fn.log;
  taken : SoFar l.fn.log l.bytes l.rest l.log l.number;
  shorter : length l.rest + l.number ≤ length l.bytes;
}
