use Rattle.filekeeper.proofs.KeptLemmas.{held_is_given}
use Rattle.filekeeper.proofs.laws.what_is_held_is_given.Goals as goal

pub returns : goal.returns
returns c = held_is_given
