use Rattle.protocol.proofs.Answering as lemmas
use Rattle.protocol.proofs.laws.a_fitting_ask_is_granted.Goals as goal

pub returns : goal.returns
returns c = lemmas.fitting_ask_is_granted
