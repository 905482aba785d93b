use Rattle.std.proofs.Common.{take}
use Rattle.std.specs.List.{AllZip}
use Rattle.keytable.specs.Failing.{HasOutput}
use Rattle.keytable.proofs.outputs.outputs_of.Given as goal

abbrev pub invariant-loop-input : goal.invariant-loop-input
invariant-loop-input l = AllZip (HasOutput l.table.entries.items) (take l.input-index l.inputs) l.outputs.items
