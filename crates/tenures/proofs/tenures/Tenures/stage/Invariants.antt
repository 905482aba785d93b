use Rattle.std.proofs.Common.{◌≡◌, ◌++◌, map, take, drop}
use Rattle.tenures.specs.Tenures.{staged}
use Rattle.tenures.proofs.tenures.Tenures.stage.Given as goal

abbrev pub invariant-loop-tenure : goal.invariant-loop-tenure
invariant-loop-tenure l = l.tenure-items ≡ map (staged l.node l.folder l.stage) (take l.tenure-index l.fn.self.tenures) ++ drop l.tenure-index l.fn.self.tenures
