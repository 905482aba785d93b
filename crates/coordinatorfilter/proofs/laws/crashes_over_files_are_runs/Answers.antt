use Rattle.coordinatorfilter.proofs.CrashLemmas.{return_over_files, crash_over_files}
use Rattle.coordinatorfilter.proofs.laws.crashes_over_files_are_runs.Goals as goal

pub returns-clause-returns : goal.returns-clause-returns
returns-clause-returns c = return_over_files

pub returns-clause-crashes : goal.returns-clause-crashes
returns-clause-crashes c = crash_over_files
