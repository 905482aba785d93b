use Rattle.protocol.proofs.Asked as lemmas
use Rattle.protocol.proofs.laws.every_ask_is_answered.Goals as goal

pub returns-clause-ready : goal.returns-clause-ready
returns-clause-ready c = lemmas.no_parked_ask_could_be_granted

pub returns-clause-answered : goal.returns-clause-answered
returns-clause-answered c = lemmas.every_ask_is_answered
