use Rattle.protocol.proofs.Schedules as lemmas
use Rattle.protocol.proofs.laws.every_event_is_moves.Goals as goal

pub returns : goal.returns
returns c = lemmas.every_event_is_moves
