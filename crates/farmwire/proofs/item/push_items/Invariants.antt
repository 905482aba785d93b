use Rattle.std.proofs.Common.{◌≡◌, ◌++◌, map, take}
use Rattle.std.specs.String.{string_bytes}
use Rattle.farmwire.specs.Words.{spaced}
use Rattle.farmwire.proofs.item.push_items.Given as goal

abbrev pub invariant-loop-item : goal.invariant-loop-item
invariant-loop-item g l = string_bytes l.text ≡ string_bytes l.fn.text ++ spaced (map g.T.Item.spelling (take l.item-index l.items))
