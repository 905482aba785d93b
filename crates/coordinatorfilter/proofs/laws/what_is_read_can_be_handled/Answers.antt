use Rattle.coordinatorlines.proofs.CallLemmas.{said}
use Rattle.coordinatorfilter.proofs.laws.what_is_read_can_be_handled.Goals as goal

pub returns : goal.returns
returns c = said
