use Rattle.coordinatorfilter.proofs.PowerLemmas.{power_fails_over_files}
use Rattle.coordinatorfilter.proofs.RuleLemmas.{kill_over_files, start_over_files}
use Rattle.coordinatorfilter.proofs.laws.ends_and_starts_over_files_are_runs.Goals as goal

pub returns-clause-kills : goal.returns-clause-kills
returns-clause-kills c = kill_over_files

pub returns-clause-power_failures : goal.returns-clause-power_failures
returns-clause-power_failures c = power_fails_over_files

pub returns-clause-starts : goal.returns-clause-starts
returns-clause-starts c = start_over_files
