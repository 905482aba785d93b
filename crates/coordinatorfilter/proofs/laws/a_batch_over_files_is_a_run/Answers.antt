use Rattle.coordinatorfilter.proofs.RuleLemmas.{over_files}
use Rattle.coordinatorfilter.proofs.laws.a_batch_over_files_is_a_run.Goals as goal

pub returns : goal.returns
returns c = over_files
