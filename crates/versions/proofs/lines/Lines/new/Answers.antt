use Rattle.std.proofs.Common.{sym, subst}
use Rattle.versions.specs.Ordered.{AreLines}
use Rattle.versions.proofs.Ordered.{lines-none}
use Rattle.versions.proofs.lines.Lines.new.Goals as goal

pub invariant_of-result : goal.invariant_of-result
invariant_of-result c = subst AreLines (sym c.new.ensures.items) lines-none
