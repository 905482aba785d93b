use Rattle.std.proofs.Common.{◌≡◌, ◌++◌, drop, map}
use Rattle.nodecontents.specs.Stored.{version_of}
use Rattle.nodecontents.proofs.contents.confirmed.Given as goal

abbrev pub invariant-loop-confirmed : goal.invariant-loop-confirmed
invariant-loop-confirmed l = l.named.items ++ map version_of (drop l.confirmed-index l.versions) ≡ map version_of l.versions
