use Rattle.std.proofs.Common.{List, take}
use Rattle.names.specs.declared.digest.Digest.{Digest}
use Rattle.ordering.specs.Firsts.{IsTable}
use Rattle.ordering.specs.Entries.{AreResolved}
use Rattle.ordering.proofs.order_entries.inputs_of.Given as goal

abbrev pub invariant-loop-input : goal.invariant-loop-input
invariant-loop-input l = (digests : List Digest) → IsTable digests l.table → AreResolved digests (take l.input-index l.inputs) l.row.items
