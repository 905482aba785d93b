use Rattle.std.proofs.Common.{◌≡◌, take}
use Rattle.protowire.specs.Seen.{entries}
use Rattle.protowire.specs.Lookups.{last_member}
use Rattle.protowire.proofs.LookupLoop.{run_of}
use Rattle.protowire.proofs.lookup.last_member.Given as goal

abbrev pub invariant-loop-field : goal.invariant-loop-field
invariant-loop-field l = run_of l.last l.joined.items ≡ last_member l.members (entries (take l.field-index l.fields))
