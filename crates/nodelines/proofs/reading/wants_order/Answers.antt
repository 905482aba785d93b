use Rattle.std.proofs.Common.{Err, ap}
use Rattle.words.proofs.WordLemmas.{passed_on}
use Rattle.nodelines.proofs.reading.wants_order.Goals as goal

pub returns-in_err-wants-clause-only : goal.returns-in_err-wants-clause-only
returns-in_err-wants-clause-only c = λ same o h.
    let bad = passed_on _ _ _ c.from_residual.ensures.1 same in
    c.in_err-wants.ensures.only (ap Err bad) h.wants h.spelled
