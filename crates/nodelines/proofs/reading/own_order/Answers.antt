use Rattle.std.proofs.Common.{ap, sym, subst, ◌∙◌}
use Rattle.words.specs.Words.{texts}
use Rattle.nodelines.specs.Orders.{AskedBy}
use Rattle.nodelines.proofs.reading.own_order.Goals as goal

pub returns-clause-only : goal.returns-clause-only
returns-clause-only c = λ same o h.
    let ws = ap texts c.as_slice.ensures.value ∙ c.in_ok-words.ensures in
    c.asked_by.ensures.only same o (subst (λ ws. AskedBy ws o) (sym ws) h)
