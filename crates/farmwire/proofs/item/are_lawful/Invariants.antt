use Rattle.std.proofs.Common.{take}
use Rattle.std.specs.List.{All}
use Rattle.farmwire.proofs.item.are_lawful.Given as goal

abbrev pub invariant-loop-item : goal.invariant-loop-item
invariant-loop-item g l = All g.T.Item.lawful (take l.item-index l.items)
