use Rattle.progress.proofs.TenureAsks as lemmas
use Rattle.progress.proofs.laws.every_open_tenure_is_answered_by_giving_back.Goals as goal

pub returns-clause-ended : goal.returns-clause-ended
returns-clause-ended c = lemmas.every_tenure_can_be_given_back (record {
  opens = c.every_farm_stays_lawful.ensures.opening;
  farms = c.every_farm_stays_lawful.ensures.stays;
  safes = c.every_schedule_is_safe.ensures.safe;
  keeps = c.every_event_keeps_the_farm.ensures;
  touches = c.a_message_touches_only_its_own.ensures.touches;
}) c.every_schedule_is_safe.ensures.stays c.every_schedule_means.ensures.headline

pub returns-clause-answered : goal.returns-clause-answered
returns-clause-answered c = lemmas.every_open_tenure_is_answered_by_giving_back (record {
  opens = c.every_farm_stays_lawful.ensures.opening;
  farms = c.every_farm_stays_lawful.ensures.stays;
  safes = c.every_schedule_is_safe.ensures.safe;
  keeps = c.every_event_keeps_the_farm.ensures;
  touches = c.a_message_touches_only_its_own.ensures.touches;
}) c.every_schedule_is_safe.ensures.stays c.every_schedule_means.ensures.headline
