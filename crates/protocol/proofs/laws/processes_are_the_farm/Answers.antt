use Rattle.protocol.proofs.Processing as lemmas
use Rattle.protocol.proofs.laws.processes_are_the_farm.Goals as goal

pub returns-clause-farm : goal.returns-clause-farm
returns-clause-farm c = lemmas.processes_are_the_farm

pub returns-clause-safe : goal.returns-clause-safe
returns-clause-safe c = lemmas.processes_stay_safe

pub returns-clause-withdrawn : goal.returns-clause-withdrawn
returns-clause-withdrawn c = lemmas.withdrawn_stays_out

pub returns-clause-honest : goal.returns-clause-honest
returns-clause-honest c = lemmas.only_honest_are_a_farm

pub returns-clause-all : goal.returns-clause-all
returns-clause-all c = lemmas.every_farm_is_processes

pub returns-clause-losses : goal.returns-clause-losses
returns-clause-losses c = lemmas.all_can_be_lost

pub returns-clause-ended : goal.returns-clause-ended
returns-clause-ended c = lemmas.ended_stays_out
