use Rattle.processes.proofs.FarmLemmas.{every_run, raided_stays_safe, raided_keeps_out, stays_safe}
use Rattle.processes.proofs.laws.a_farm_is_safe.Goals as goal

pub returns-clause-run : goal.returns-clause-run
returns-clause-run c = every_run

pub returns-clause-raided : goal.returns-clause-raided
returns-clause-raided c =
    let raided = c.raided_processes_are_a_raided_farm.ensures in
    raided_stays_safe raided.farm c.a_hostile_node_spoils_only_what_it_was_leased.ensures.safe raided.safe

pub returns-clause-withdrawn : goal.returns-clause-withdrawn
returns-clause-withdrawn c = raided_keeps_out c.raided_processes_are_a_raided_farm.ensures.withdrawn

pub returns-clause-safe : goal.returns-clause-safe
returns-clause-safe c = stays_safe c.processes_are_the_farm.ensures.safe
