use Rattle.merging.proofs.MergeLaws.{nothing_changed_by_mine, nothing_changed_by_theirs, merge_is}
use Rattle.merging.proofs.laws.one_side_alone_is_the_merge.Goals as goal

pub returns : goal.returns
returns c = record {
  mine = λ rule base mine merged rise tree m. merge_is rule base mine base merged mine m rise (nothing_changed_by_theirs rule base mine tree);
  theirs = λ rule base theirs merged rise tree m. merge_is rule base base theirs merged theirs m rise (nothing_changed_by_mine rule base theirs tree);
}
