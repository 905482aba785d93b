use Rattle.jobs.proofs.RestLemmas.{no_job_waits}
use Rattle.jobs.proofs.laws.no_job_waits_at_rest.Goals as goal

pub returns : goal.returns
returns c = no_job_waits
