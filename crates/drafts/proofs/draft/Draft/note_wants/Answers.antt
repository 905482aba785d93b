use Rattle.std.proofs.Common.{◌≡◌, true, sym, subst}
use Rattle.leases.specs.Leases.{Table}
use Rattle.leases.specs.Table.{is_free}
use Rattle.effects.specs.Spent.{is_private_spent}
use Rattle.drafts.proofs.draft.Draft.note_wants.Goals as goal

pub returns-clause-noted : goal.returns-clause-noted
returns-clause-noted c = λ w i spent.
    c.in_ok-note_wants.ensures.noted w i
    (subst (λ (t : Table). is_private_spent (is_free t) w.folder ≡ true) (sym c.table.ensures) spent)
