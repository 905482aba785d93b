use Rattle.std.proofs.Common.{◌≡◌, take}
use Rattle.std.specs.Option.{option_map}
use Rattle.protowire.specs.Seen.{entries}
use Rattle.protowire.specs.Lookups.{members_in}
use Rattle.protowire.proofs.LookupLoop.{listed}
use Rattle.protowire.proofs.lookup.lone_member.Given as goal

abbrev pub invariant-loop-field : goal.invariant-loop-field
invariant-loop-field l = members_in l.members (entries (take l.field-index l.fields)) ≡ listed (option_map (λ m. (m.0, m.1.now)) l.lone)
