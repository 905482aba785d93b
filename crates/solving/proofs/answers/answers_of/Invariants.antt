use Rattle.std.proofs.Common.{◌≡◌, ◌≢◌, length}
use Rattle.std.specs.List.{All}
use Rattle.jobs.specs.declared.answer.Answer.TheVariants.{Waiting}
use Rattle.solving.proofs.answers.answers_of.Given as goal

-- there is an answer of each job so far, and none of them waits
abbrev pub invariant-loop-job : goal.invariant-loop-job
invariant-loop-job l = (length l.answers.items ≡ l.job) × All (λ answer. answer ≢ Waiting) l.answers.items
