use Rattle.progress.proofs.Progressing as lemmas
use Rattle.progress.proofs.laws.giving_back_goes_on.Goals as goal

pub returns-clause-goes : goal.returns-clause-goes
returns-clause-goes c = lemmas.giving_back_goes_on c.every_ledger_stays_lawful.ensures c.every_farm_stays_lawful.ensures.opening c.every_farm_stays_lawful.ensures.stays c.every_schedule_is_safe.ensures.safe

pub returns-clause-answered : goal.returns-clause-answered
returns-clause-answered c = lemmas.every_parked_ask_can_be_answered c.every_ledger_stays_lawful.ensures c.every_farm_stays_lawful.ensures.opening c.every_farm_stays_lawful.ensures.stays c.every_schedule_is_safe.ensures.safe
