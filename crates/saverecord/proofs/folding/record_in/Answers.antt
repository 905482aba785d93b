use Rattle.std.proofs.Common.{sym, subst}
use Rattle.saverecord.specs.Ledgers.{IsKept}
use Rattle.saverecord.proofs.FoldLemmas.{blank_kept}
use Rattle.saverecord.proofs.folding.record_in.Goals as goal

pub returns-then-is_empty-clause-kept : goal.returns-then-is_empty-clause-kept
returns-then-is_empty-clause-kept c = subst IsKept (sym c.blank.ensures) blank_kept
