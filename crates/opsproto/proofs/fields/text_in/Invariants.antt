use Rattle.std.proofs.Common.{◌≡◌, drop}
use Rattle.protowire.specs.Seen.{entries}
use Rattle.opsproto.specs.Scalars.{text_in}
use Rattle.opsproto.proofs.ReadingLemmas.{text_after}
use Rattle.opsproto.proofs.fields.text_in.Given as goal

abbrev pub invariant-loop-field : goal.invariant-loop-field
invariant-loop-field l = text_after l.last l.number (entries (drop l.field-index l.fields)) ≡ text_in l.number (entries l.fields)
