use Rattle.schedule.proofs.LineLemmas.{rising, not_rising}
use Rattle.schedule.proofs.line.lefts_of.Goals as goal

pub returns-then-rises-clause-spelled : goal.returns-then-rises-clause-spelled
returns-then-rises-clause-spelled c =
    let given = c.in_ok-lefts.ensures in
    let answer = rw c.as_slice.ensures.value at c.rises.ensures in
    rw c.new.ensures (record {
      each = given.lefts;
      text = given.spelled;
      rising = rising c.in_ok-lefts.lefts.items c.rises.result answer c.if-rises.true;
    })

pub returns-else-rises-clause-only : goal.returns-else-rises-clause-only
returns-else-rises-clause-only c = λ same lefts h.
    let given = c.in_ok-lefts.ensures in
    let answer = rw c.as_slice.ensures.value at c.rises.ensures in
    not_rising _ c.in_ok-lefts.lefts.items lefts c.rises.result answer c.if-rises.false given.lefts given.spelled h
