use Rattle.std.proofs.Common.{◌≡◌, ◌++◌, drop}
use Rattle.std.specs.List.{flat_map}
use Rattle.std.specs.String.{string_bytes}
use Rattle.answers.proofs.printing.push_each.Given as goal

abbrev pub invariant-loop-part : goal.invariant-loop-part
invariant-loop-part g l = string_bytes l.text ++ flat_map g.P.Printed.prints (drop l.part-index l.parts) ≡ string_bytes l.fn.text ++ flat_map g.P.Printed.prints l.parts
