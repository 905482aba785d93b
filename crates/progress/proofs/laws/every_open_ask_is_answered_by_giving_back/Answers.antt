use Rattle.progress.proofs.Ending as lemmas
use Rattle.progress.proofs.Witnessing as witnesses
use Rattle.progress.proofs.laws.every_open_ask_is_answered_by_giving_back.Goals as goal

pub returns-clause-answered : goal.returns-clause-answered
returns-clause-answered c = lemmas.every_open_ask_is_answered_by_giving_back (record {
  opens = c.every_farm_stays_lawful.ensures.opening;
  farms = c.every_farm_stays_lawful.ensures.stays;
  safes = c.every_schedule_is_safe.ensures.safe;
  keeps = c.every_event_keeps_the_farm.ensures;
  touches = c.a_message_touches_only_its_own.ensures.touches;
}) c.every_schedule_means.ensures.headline

pub returns-clause-up : goal.returns-clause-up
returns-clause-up c = witnesses.young_nodes_are_up c.every_schedule_means.ensures.headline

pub returns-clause-waits : goal.returns-clause-waits
returns-clause-waits c = witnesses.an_accepted_ask_waits
