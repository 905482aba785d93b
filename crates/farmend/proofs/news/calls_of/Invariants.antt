use Rattle.std.proofs.Common.{◌≡◌, map, take}
use Rattle.farmend.proofs.news.calls_of.Given as goal

-- the calls of the executors so far
abbrev pub invariant-loop-executor : goal.invariant-loop-executor
invariant-loop-executor g l = map (λ calls. calls.now) l.all.items ≡ map (λ executor. (goal.Executor-dyn g (executor.vtable, executor.value)).history executor.value) (take l.executor-index l.executors)
