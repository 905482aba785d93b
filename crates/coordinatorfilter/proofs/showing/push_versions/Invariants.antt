use Rattle.std.proofs.Common.{◌≡◌, ◌++◌, ◌+◌, drop}
use Rattle.std.specs.List.{flat_map, enumerate_from}
use Rattle.std.specs.String.{string_bytes}
use Rattle.coordinatorfilter.specs.Shown.{version_line}
use Rattle.coordinatorfilter.proofs.showing.push_versions.Given as goal

abbrev pub invariant-loop-index : goal.invariant-loop-index
invariant-loop-index l = string_bytes l.text ++ flat_map version_line (enumerate_from (l.index + 1) (drop l.index l.versions))
    ≡ string_bytes l.fn.text ++ flat_map version_line (enumerate_from 1 l.versions)
