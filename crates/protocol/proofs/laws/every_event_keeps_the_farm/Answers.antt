use Rattle.protocol.proofs.Keeping as lemmas
use Rattle.protocol.proofs.laws.every_event_keeps_the_farm.Goals as goal

pub returns : goal.returns
returns c = lemmas.every_event_keeps_the_farm
