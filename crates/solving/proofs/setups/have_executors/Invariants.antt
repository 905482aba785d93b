use Rattle.std.proofs.Common.{◌≡◌, ◌==◌, drop}
use Rattle.std.specs.List.{list_all, list_any}
use Rattle.solving.proofs.setups.have_executors.Given as goal

abbrev pub invariant-loop-job : goal.invariant-loop-job
invariant-loop-job g l = list_all (λ job. list_any (λ e. e.0.0 == job.0.0) l.executors) (drop l.job-index l.jobs) ≡ list_all (λ job. list_any (λ e. e.0.0 == job.0.0) l.executors) l.jobs
