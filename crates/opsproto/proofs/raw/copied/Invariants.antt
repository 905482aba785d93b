use Rattle.std.proofs.Common.{◌≡◌, ◌++◌, drop}
use Rattle.protowire.specs.Fields.{message}
use Rattle.protowire.specs.Seen.{spelled_all}
use Rattle.opsproto.specs.Ops.{kept}
use Rattle.opsproto.proofs.raw.copied.Given as goal

abbrev pub invariant-loop-field : goal.invariant-loop-field
invariant-loop-field l = l.bytes.items ++ message (kept (spelled_all l.message (drop l.field-index l.fields))) ≡ message (kept (spelled_all l.message l.fields))
