use Rattle.progress.proofs.Ends as ends
use Rattle.progress.proofs.Fairness as lemmas
use Rattle.progress.proofs.Running as running
use Rattle.progress.proofs.laws.every_open_ask_is_answered.Goals as goal

pub returns-clause-ended : goal.returns-clause-ended
returns-clause-ended c = ends.every_lease_ends (record {
  opens = c.every_farm_stays_lawful.ensures.opening;
  farms = c.every_farm_stays_lawful.ensures.stays;
  safes = c.every_schedule_is_safe.ensures.safe;
  keeps = c.every_event_keeps_the_farm.ensures;
  touches = c.a_message_touches_only_its_own.ensures.touches;
}) c.every_schedule_is_safe.ensures.stays

pub returns-clause-answered : goal.returns-clause-answered
returns-clause-answered c = lemmas.every_open_ask_is_answered (record {
  opens = c.every_farm_stays_lawful.ensures.opening;
  farms = c.every_farm_stays_lawful.ensures.stays;
  safes = c.every_schedule_is_safe.ensures.safe;
  keeps = c.every_event_keeps_the_farm.ensures;
  touches = c.a_message_touches_only_its_own.ensures.touches;
}) c.every_schedule_is_safe.ensures.stays c.every_schedule_means.ensures.headline

pub returns-clause-fair : goal.returns-clause-fair
returns-clause-fair c = running.there_are_fair_runs (record {
  opens = c.every_farm_stays_lawful.ensures.opening;
  farms = c.every_farm_stays_lawful.ensures.stays;
  safes = c.every_schedule_is_safe.ensures.safe;
  keeps = c.every_event_keeps_the_farm.ensures;
  touches = c.a_message_touches_only_its_own.ensures.touches;
})

pub returns-clause-one : goal.returns-clause-one
returns-clause-one c = running.one_folder_is_one
