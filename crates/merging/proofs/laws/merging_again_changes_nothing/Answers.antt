use Rattle.merging.proofs.MergeLaws.{merge_again}
use Rattle.merging.proofs.laws.merging_again_changes_nothing.Goals as goal

pub returns : goal.returns
returns c = merge_again
