use Rattle.std.proofs.Common.{◌≡◌, ◌++◌, drop}
use Rattle.protowire.specs.Seen.{entries}
use Rattle.protowire.specs.Lookups.{bodies}
use Rattle.opsproto.proofs.fields.texts_in.Given as goal

abbrev pub invariant-loop-field : goal.invariant-loop-field
invariant-loop-field l = l.texts.items ++ bodies l.number (entries (drop l.field-index l.fields)) ≡ bodies l.number (entries l.fields)
