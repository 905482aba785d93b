use Rattle.std.proofs.Common.{◌≡◌, ◌++◌, map, take, drop}
use Rattle.tenures.specs.Tenures.{put_down}
use Rattle.tenures.proofs.tenures.Tenures.put_down.Given as goal

abbrev pub invariant-loop-tenure : goal.invariant-loop-tenure
invariant-loop-tenure l = l.tenure-items ≡ map (put_down l.node l.wants) (take l.tenure-index l.fn.self.tenures) ++ drop l.tenure-index l.fn.self.tenures
