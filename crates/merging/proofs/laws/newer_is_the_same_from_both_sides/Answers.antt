use Rattle.merging.specs.declared.rule.Rule.TheVariants.{Newer}
use Rattle.merging.proofs.MergeLaws.{one_merge}
use Rattle.merging.proofs.NewerLaws.{merged_turned, conflict_turned}
use Rattle.merging.proofs.laws.newer_is_the_same_from_both_sides.Goals as goal

pub returns : goal.returns
returns c = record {
  merged = λ base mine theirs one another m m'. one_merge Newer Newer base mine theirs base theirs mine one another m m' (merged_turned base mine theirs);
  conflicts = conflict_turned;
}
