use Rattle.protocol.proofs.Parking as lemmas
use Rattle.protocol.proofs.laws.no_parked_ask_is_ready.Goals as goal

pub returns : goal.returns
returns c = lemmas.no_parked_ask_is_ready
