use Rattle.std.proofs.Common.{take}
use Rattle.std.specs.List.{AllZip}
use Rattle.executions.specs.Shown.{shown}
use Rattle.reasons.specs.Answers.{IsAnswered}
use Rattle.reasons.specs.NewCalls.{on_node}
use Rattle.reasons.proofs.answers.are_answered.Given as goal

-- the answers so far have their reasons
abbrev pub invariant-loop-place : goal.invariant-loop-place
invariant-loop-place l = AllZip (λ job answer. IsAnswered (shown l.world) (on_node job.0 l.news) job.0 job.1 answer) (take l.place l.jobs) (take l.place l.answers)
