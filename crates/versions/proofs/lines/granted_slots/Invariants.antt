use Rattle.std.proofs.Common.{◌≡◌, take, map}
use Rattle.names.specs.Contents.{empty_digest}
use Rattle.protocol.specs.Ledger.{granted_slot}
use Rattle.versions.specs.Lines.{lines_with}
use Rattle.versions.proofs.lines.granted_slots.Given as goal

abbrev pub invariant-loop-held : goal.invariant-loop-held
invariant-loop-held l = l.granted.items ≡ map (granted_slot empty_digest (lines_with l.lines l.added)) (take l.held-index l.slots)
