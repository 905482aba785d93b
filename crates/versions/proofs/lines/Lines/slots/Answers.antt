use Rattle.std.proofs.Common.{List, not, ap, ◌∙◌}
use Rattle.std.specs.List.{list_any}
use Rattle.protocol.specs.Lists.{is_nil}
use Rattle.protocol.specs.Names.{Slot, slot_eq}
use Rattle.versions.specs.declared.lines.SlotLine.{SlotLine}
use Rattle.versions.specs.Lines.{line_at}
use Rattle.versions.specs.Ordered.{slots}
use Rattle.versions.proofs.Ordered.{slots-exact}
use Rattle.versions.proofs.lines.Lines.slots.Goals as goal

pub returns-clause-exact : goal.returns-clause-exact
returns-clause-exact c s =
    ap (list_any (λ (x : Slot). slot_eq x s)) (c.in_ok-slots.ensures ∙ ap slots c.as_slice.ensures.value)
    ∙ slots-exact c.self.inside.lines.items s c.self.invariant.filled
    ∙ ap (λ (ls : List SlotLine). not (is_nil (line_at ls s))) c.self.view_is
