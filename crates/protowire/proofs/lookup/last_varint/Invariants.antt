use Rattle.std.proofs.Common.{◌≡◌, drop}
use Rattle.std.specs.Prelude.{filter_map}
use Rattle.std.specs.List.{last_or}
use Rattle.protowire.specs.Seen.{entries}
use Rattle.protowire.specs.Lookups.{number_in, last_varint}
use Rattle.protowire.proofs.lookup.last_varint.Given as goal

abbrev pub invariant-loop-field : goal.invariant-loop-field
invariant-loop-field l = last_or l.last (filter_map (number_in l.number) (entries (drop l.field-index l.fields))) ≡ last_varint l.number (entries l.fields)
