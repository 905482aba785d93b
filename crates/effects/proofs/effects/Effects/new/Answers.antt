use Rattle.std.proofs.Common.{List, false, ap, ◌∙◌}
use Rattle.events.specs.declared.answer.CoordNote.TheVariants as note
use Rattle.protocol.specs.Machine.{FromCoord}
use Rattle.protocol.specs.Ledger.{Ledger, Work}
use Rattle.effects.specs.Held.{ledger}
use Rattle.effects.specs.Keeps.{held}
use Rattle.effects.proofs.effects.Effects.new.Goals as goal

pub returns-clause-work : goal.returns-clause-work
returns-clause-work c =
    let by : (Ledger → List FromCoord → Work) = λ q sends. record { ledger = q; sends = sends; changed = false; note = note.Nothing } in
    ap (λ (q : Ledger). by q c.new-2.result.items) c.in_ok-change.ensures.ledger ∙ ap (by (ledger (held c.args.base.now))) c.new-2.ensures.items
