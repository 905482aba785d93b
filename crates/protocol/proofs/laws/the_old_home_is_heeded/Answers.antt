use Rattle.protocol.proofs.Keeping as lemmas
use Rattle.protocol.proofs.laws.the_old_home_is_heeded.Goals as goal

pub returns : goal.returns
returns c = lemmas.the_old_home_is_heeded
