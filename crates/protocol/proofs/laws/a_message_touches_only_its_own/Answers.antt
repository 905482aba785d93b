use Rattle.protocol.proofs.Touching as lemmas
use Rattle.protocol.proofs.laws.a_message_touches_only_its_own.Goals as goal

pub returns-clause-touches : goal.returns-clause-touches
returns-clause-touches c = lemmas.every_message_touches_its_own

pub returns-clause-out : goal.returns-clause-out
returns-clause-out c = lemmas.every_node_can_be_put_out
