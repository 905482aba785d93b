use Rattle.merging.proofs.MergeLaws.{merge_tree}
use Rattle.merging.proofs.laws.a_merge_of_trees_is_a_tree.Goals as goal

pub returns : goal.returns
returns c = merge_tree
