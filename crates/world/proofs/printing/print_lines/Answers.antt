use Rattle.std.proofs.Common.{◌≡◌, ◌∙◌, List, ap, subst}
use Rattle.std.specs.String.{string_bytes}
use Rattle.protocol.specs.Names.{Slot}
use Rattle.protocol.specs.Machine.{LineVersion}
use Rattle.protocol.specs.Ledger.{Ledger}
use Rattle.coordinator.specs.Held.{ledger}
use Rattle.world.specs.Printing.{ArePrinted, AreSlots, lines_of}
use Rattle.world.proofs.printing.print_lines.Goals as goal

pub returns : goal.returns
returns c =
    let line : (Slot → List LineVersion) = (ledger c.coordinator-coordinator.result.now.held).line in
    let slots : List Slot = c.in_ok-slots.slots.items in
    let are : AreSlots line slots = record { rise = c.in_ok-slots.ensures.rising; exact = c.in_ok-slots.ensures.exact } in
    let text : string_bytes c.in_ok-text.text ≡ lines_of line slots = c.in_ok-text.ensures ∙ ap (lines_of line) c.as_slice.ensures.value in
    subst (λ (q : Ledger). ArePrinted q.line (string_bytes c.in_ok-text.text)) c.coordinator-coordinator.ensures.ledger (slots, are, text)
