use Rattle.std.proofs.Common.{take}
use Rattle.nodefilter.specs.Filters.{AreLeft}
use Rattle.nodestore.specs.Stores.{HasContent}
use Rattle.nodefilter.proofs.filter.lefts_in.Given as goal

abbrev pub invariant-loop-file : goal.invariant-loop-file
invariant-loop-file g l = AreLeft (HasContent (g.S.Store.had l.store)) (take l.file-index l.files) l.lefts.items
