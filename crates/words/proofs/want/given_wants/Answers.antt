use Rattle.words.proofs.WantLemmas.{none_given}
use Rattle.words.proofs.WordLemmas.{passed_on}
use Rattle.words.proofs.want.given_wants.Goals as goal

pub returns-in_err-of-clause-only : goal.returns-in_err-of-clause-only
returns-in_err-of-clause-only c = λ same wants h.
    let bad = passed_on _ _ _ c.from_residual-in_err-of.ensures.1 same in
    let given = c.in_ok-wants.ensures in
    none_given c.of.result _ _ _ c.in_ok-wants.wants.items wants c.in_err-of.was bad c.of.ensures.too_many c.of.ensures.twice c.in_ok-wants.wants.ok.0 given.wants given.spelled h
