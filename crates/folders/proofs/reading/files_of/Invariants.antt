use Rattle.std.proofs.Common.{None, length}
use Rattle.std.specs.Option.{option_copied}
use Rattle.folders.specs.Reading.{files_in}
use Rattle.folders.proofs.FileLoop.{IsOpen}
use Rattle.folders.proofs.reading.files_of.Given as goal

abbrev pub invariant-loop-last : goal.invariant-loop-last
invariant-loop-last l = IsOpen (files_in (length l.bytes) None l.bytes) l.files.items (option_copied l.last) l.rest

abbrev pub decreases-loop-last : goal.decreases-loop-last
decreases-loop-last l = length l.rest
