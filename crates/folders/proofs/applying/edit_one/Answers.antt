use Rattle.std.proofs.Common.{sym, ap, ◌∙◌}
use Rattle.folders.specs.Edits.{edited, lent}
use Rattle.folders.proofs.Plans.{files_lent, lent-insert_entry, lent-remove_entry}
use Rattle.folders.proofs.applying.edit_one.Goals as goal

pub returns-in_ok-insert-in-Put : goal.returns-in_ok-insert-in-Put
returns-in_ok-insert-in-Put c =
    ap files_lent c.in_ok-insert-in-Put.ensures.entries ∙ lent-insert_entry c.args.plan.now.entries c.as_str.result c.as_slice.result
    ∙ rw (c.as_str.ensures.value, c.as_slice.ensures) (ap (edited (lent c.args.plan.now)) (sym c.in-Put.is))

pub returns-in-Remove : goal.returns-in-Remove
returns-in-Remove c =
    ap files_lent c.remove.ensures.entries ∙ lent-remove_entry c.args.plan.now.entries c.as_str-in-Remove.result.now
    ∙ rw c.as_str-in-Remove.ensures.value (ap (edited (lent c.args.plan.now)) (sym c.in-Remove.is))
