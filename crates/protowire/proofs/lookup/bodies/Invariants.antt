use Rattle.std.proofs.Common.{◌≡◌, ◌++◌, drop}
use Rattle.protowire.specs.Seen.{entries}
use Rattle.protowire.specs.Lookups.{bodies}
use Rattle.protowire.proofs.LookupLoop.{bodies_now}
use Rattle.protowire.proofs.lookup.bodies.Given as goal

abbrev pub invariant-loop-field : goal.invariant-loop-field
invariant-loop-field l = bodies_now l.bodies.items ++ bodies l.number (entries (drop l.field-index l.fields)) ≡ bodies l.number (entries l.fields)
