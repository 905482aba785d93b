use Rattle.std.proofs.Common.{◌≡◌, ◌++◌, take}
use Rattle.filekeeper.specs.Framing.{log_bytes}
use Rattle.filekeeper.proofs.record_files.behind.Given as goal

-- the entries so far stand in front
abbrev pub invariant-loop-entry : goal.invariant-loop-entry
invariant-loop-entry l = l.bytes ≡ log_bytes l.whole (take l.entry-index l.entries) ++ l.rest
