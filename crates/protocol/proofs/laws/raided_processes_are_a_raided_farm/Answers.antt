use Rattle.protocol.proofs.RaidedProcesses as lemmas
use Rattle.protocol.proofs.laws.raided_processes_are_a_raided_farm.Goals as goal

pub returns-clause-farm : goal.returns-clause-farm
returns-clause-farm c = lemmas.raided_processes_are_a_farm

pub returns-clause-safe : goal.returns-clause-safe
returns-clause-safe c = lemmas.raided_processes_stay_safe

pub returns-clause-withdrawn : goal.returns-clause-withdrawn
returns-clause-withdrawn c = lemmas.raided_withdrawn_stays_out
