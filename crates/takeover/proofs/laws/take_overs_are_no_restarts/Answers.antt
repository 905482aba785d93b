use Rattle.takeover.proofs.TakingOver as lemmas
use Rattle.takeover.proofs.laws.take_overs_are_no_restarts.Goals as goal

pub returns : goal.returns
returns c = lemmas.take_overs_are_no_restarts
