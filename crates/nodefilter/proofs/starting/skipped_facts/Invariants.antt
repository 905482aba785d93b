use Rattle.std.proofs.Common.{◌≡◌, take}
use Rattle.std.specs.List.{flat_map}
use Rattle.std.specs.String.{string_bytes}
use Rattle.nodefilter.specs.Starts.{skipped_fact}
use Rattle.nodefilter.proofs.starting.skipped_facts.Given as goal

abbrev pub invariant-loop-digest : goal.invariant-loop-digest
invariant-loop-digest l = string_bytes l.facts ≡ flat_map skipped_fact (take l.digest-index l.skipped)
