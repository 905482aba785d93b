use Rattle.std.proofs.Common.{refl}
use Rattle.merging.proofs.MergeLaws.{one_merge}
use Rattle.merging.proofs.laws.there_is_one_merge.Goals as goal

pub returns : goal.returns
returns c = λ rule base mine theirs one another m m'. one_merge rule rule base mine theirs base mine theirs one another m m' (λ path. refl)
