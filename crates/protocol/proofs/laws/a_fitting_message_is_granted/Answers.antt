use Rattle.protocol.proofs.Asking as lemmas
use Rattle.protocol.proofs.laws.a_fitting_message_is_granted.Goals as goal

pub returns : goal.returns
returns c = lemmas.fitting_message_is_granted
