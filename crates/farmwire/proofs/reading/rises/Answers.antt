use Rattle.std.proofs.Common.{rules}
use Rattle.std.specs.Ordering.{is_lt}
use Rattle.std.proofs.lemmas.List.Sorted.{answers_always}
use Rattle.names.specs.Folders.{folder_cmp}
use Rattle.farmwire.proofs.reading.rises.Goals as goal

pub returns : goal.returns
returns c = c.is_sorted_by.ensures.cases (λ a b. is_lt (folder_cmp a.folder b.folder)) (answers_always _ _ _ (λ f a r q k. search rules))
