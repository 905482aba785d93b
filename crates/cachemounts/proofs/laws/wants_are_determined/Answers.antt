use Rattle.cachemounts.proofs.OneLemmas.{one_wants}
use Rattle.cachemounts.proofs.laws.wants_are_determined.Goals as goal

pub returns : goal.returns
returns c = one_wants
