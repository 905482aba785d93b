use Rattle.std.proofs.Common.{◌≡◌, ◌++◌, ◌+◌, drop}
use Rattle.std.specs.List.{flat_map, enumerate_from}
use Rattle.std.specs.String.{string_bytes}
use Rattle.schedule.specs.Printing.{version_text}
use Rattle.schedule.proofs.slot_line.push_versions.Given as goal

abbrev pub invariant-loop-index : goal.invariant-loop-index
invariant-loop-index l = string_bytes l.text ++ flat_map version_text (enumerate_from (l.index + 1) (drop l.index l.line))
    ≡ string_bytes l.fn.text ++ flat_map version_text (enumerate_from 1 l.line)
