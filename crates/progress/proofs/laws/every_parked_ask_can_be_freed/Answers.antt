use Rattle.progress.proofs.Freeing as lemmas
use Rattle.progress.proofs.laws.every_parked_ask_can_be_freed.Goals as goal

pub returns : goal.returns
returns c = lemmas.every_parked_ask_can_be_freed c.every_farm_stays_lawful.ensures.opening c.every_farm_stays_lawful.ensures.stays
