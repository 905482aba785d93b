use Rattle.jobs.proofs.TaskLemmas.{a_task_a_key}
use Rattle.jobs.proofs.laws.at_most_one_task_a_key.Goals as goal

pub returns : goal.returns
returns c = a_task_a_key
