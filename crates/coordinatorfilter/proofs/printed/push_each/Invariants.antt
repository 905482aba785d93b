use Rattle.std.proofs.Common.{◌≡◌, ◌++◌, take}
use Rattle.std.specs.List.{flat_map}
use Rattle.std.specs.String.{string_bytes}
use Rattle.coordinatorfilter.proofs.printed.push_each.Given as goal

abbrev pub invariant-loop-part : goal.invariant-loop-part
invariant-loop-part g l = string_bytes l.text ≡ string_bytes l.fn.text ++ flat_map g.P.Printed.prints (take l.part-index l.parts)
