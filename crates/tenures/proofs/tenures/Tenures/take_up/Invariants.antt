use Rattle.std.proofs.Common.{◌≡◌, ◌++◌, map, take, drop}
use Rattle.tenures.specs.Tenures.{taken_up}
use Rattle.tenures.proofs.tenures.Tenures.take_up.Given as goal

abbrev pub invariant-loop-tenure : goal.invariant-loop-tenure
invariant-loop-tenure l = l.tenure-items ≡ map (taken_up l.node l.wants) (take l.tenure-index l.fn.self.tenures) ++ drop l.tenure-index l.fn.self.tenures
