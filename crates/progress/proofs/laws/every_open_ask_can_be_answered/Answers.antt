use Rattle.progress.proofs.Asking as lemmas
use Rattle.progress.proofs.laws.every_open_ask_can_be_answered.Goals as goal

pub returns : goal.returns
returns c = lemmas.every_open_ask_can_be_answered c.every_farm_stays_lawful.ensures.opening c.every_farm_stays_lawful.ensures.stays c.every_schedule_is_safe.ensures.safe c.every_schedule_means.ensures.headline
