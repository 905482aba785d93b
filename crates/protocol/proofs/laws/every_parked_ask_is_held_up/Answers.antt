use Rattle.protocol.proofs.Keeping as lemmas
use Rattle.protocol.proofs.laws.every_parked_ask_is_held_up.Goals as goal

pub returns : goal.returns
returns c = lemmas.every_parked_ask_is_held_up
