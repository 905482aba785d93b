use Rattle.takeover.proofs.TakingOver as lemmas
use Rattle.takeover.proofs.laws.several_coordinators_are_one.Goals as goal

pub returns-clause-one : goal.returns-clause-one
returns-clause-one c = lemmas.several_are_one

pub returns-clause-safe : goal.returns-clause-safe
returns-clause-safe c = lemmas.several_stay_safe c.processes_are_the_farm.ensures.safe

pub returns-clause-withdrawn : goal.returns-clause-withdrawn
returns-clause-withdrawn c = lemmas.withdrawn_stays_out_of_all c.processes_are_the_farm.ensures.withdrawn

pub returns-clause-all : goal.returns-clause-all
returns-clause-all c = lemmas.one_is_several

pub returns-clause-farm : goal.returns-clause-farm
returns-clause-farm c = lemmas.several_are_the_farm c.processes_are_the_farm.ensures.farm

pub returns-clause-any : goal.returns-clause-any
returns-clause-any c = lemmas.any_can_take_over
