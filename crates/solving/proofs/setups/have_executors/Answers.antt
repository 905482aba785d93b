use Rattle.std.proofs.Common.{sym, ◌∙◌}
use Rattle.solving.proofs.SetupLemmas.{all-next, not-all}
use Rattle.solving.proofs.setups.have_executors.Goals as goal

pub returns-then-not-has_executor : goal.returns-then-not-has_executor
returns-then-not-has_executor g c =
    not-all _ c.args.jobs.now c.loop-job.job-index c.job-item.result c.loop-job-test.true c.job-item.is (sym c.has_executor.ensures ∙ c.if-not-has_executor.true) c.loop-job.invariant

pub loop-job-preserved : goal.loop-job-preserved
loop-job-preserved g c =
    all-next _ c.args.jobs.now c.loop-job.job-index c.job-item.result c.loop-job-test.true c.job-item.is (sym c.has_executor.ensures ∙ c.if-not-has_executor.false) c.loop-job.invariant
