use Rattle.std.proofs.Common.{take}
use Rattle.std.specs.List.{AllZip}
use Rattle.vertices.specs.Asked.{NamesAs}
use Rattle.vertices.proofs.unresolved.all_named.Given as goal

-- the inputs so far have what they name
abbrev pub invariant-loop-input : goal.invariant-loop-input
invariant-loop-input l = AllZip NamesAs (take l.input-index l.inputs) l.all.items
