use Rattle.std.proofs.Common.{◌≡◌, map, take}
use Rattle.farmend.proofs.hired.Hired.all.Given as goal

-- the executors so far are noted
abbrev pub invariant-loop-node : goal.invariant-loop-node
invariant-loop-node g l =
    record {
      nodes : map (λ each. each.node) l.hired.items ≡ map (λ each. each.0) (take l.node-index l.executors);
      had : map (λ each. each.had.items) l.hired.items ≡ map (λ each. (goal.Executor-dyn g (each.1.vtable, each.1.value)).history each.1.value) (take l.node-index l.executors);
    }
