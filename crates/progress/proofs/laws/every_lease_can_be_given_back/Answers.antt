use Rattle.progress.proofs.Ending as lemmas
use Rattle.progress.proofs.laws.every_lease_can_be_given_back.Goals as goal

pub returns : goal.returns
returns c = lemmas.every_lease_can_be_given_back (record {
  opens = c.every_farm_stays_lawful.ensures.opening;
  farms = c.every_farm_stays_lawful.ensures.stays;
  safes = c.every_schedule_is_safe.ensures.safe;
  keeps = c.every_event_keeps_the_farm.ensures;
  touches = c.a_message_touches_only_its_own.ensures.touches;
})
