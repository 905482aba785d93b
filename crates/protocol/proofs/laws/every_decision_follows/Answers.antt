use Rattle.protocol.proofs.Schedules as lemmas
use Rattle.protocol.proofs.laws.every_decision_follows.Goals as goal

pub returns : goal.returns
returns c = lemmas.every_decision_follows
