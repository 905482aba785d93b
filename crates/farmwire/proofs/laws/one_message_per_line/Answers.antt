use Rattle.farmwire.proofs.UniqueLemmas.{sealed_same}
use Rattle.farmwire.proofs.laws.one_message_per_line.Goals as goal

pub returns : goal.returns
returns c = λ keys others line a b ha hb. sealed_same keys others line a b ha hb
