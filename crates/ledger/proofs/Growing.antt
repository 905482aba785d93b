-- Lines only grow.
use Rattle.std.proofs.Common.{List, [], None, Some, Option, refl, sym, append-nil}
use Rattle.protocol.specs.Names.{Slot}
use Rattle.protocol.specs.Machine.{LineVersion}
use Rattle.versions.specs.declared.lines.Added.{Added}
use Rattle.versions.specs.declared.lines.SlotLine.{SlotLine}
use Rattle.effects.specs.Held.{line_at}
use Rattle.effects.specs.Shown.{lines_with}
use Rattle.ledger.specs.Settling.{OnlyGrow}

-- what a commit adds leaves all before it
pub grows : (lines : List SlotLine) (o : Option Added) → OnlyGrow (line_at lines) (lines_with lines o)
grows lines None s = ([], sym (append-nil (line_at lines s)))
grows lines (Some a) s = (_, refl)

pub stays : (line : Slot → List LineVersion) → OnlyGrow line line
stays line s = ([], sym (append-nil (line s)))
