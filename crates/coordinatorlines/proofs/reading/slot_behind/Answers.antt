use Rattle.std.proofs.Common.{sym, ◌∙◌}
use Rattle.std.proofs.lemmas.List.{append_cancel_left}
use Rattle.coordinatorlines.proofs.reading.slot_behind.Goals as goal

pub returns-in-Some-clause-only : goal.returns-in-Some-clause-only
returns-in-Some-clause-only c = λ same slot is e.
    c.slot_of.ensures.only same slot is (append_cancel_left c.args.front.now _ _ (sym c.in-Some.ensures.found ∙ e))
