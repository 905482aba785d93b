use Rattle.std.proofs.Common.{◌≡◌, map, ap, ◌∙◌, subst}
use Rattle.std.specs.List.{All}
use Rattle.farm_base.proofs.WantLemmas.{answer_true}
use Rattle.words.specs.Words.{IsWant, want_text}
use Rattle.words.proofs.WantLemmas.{moved_same}
use Rattle.farmwire.proofs.WantLemmas.{not_rising, unlawful}
use Rattle.words.proofs.WordLemmas.{passed_on}
use Rattle.farmwire.proofs.reading.wants_of.Goals as goal

pub returns-then-not-rises-clause-only : goal.returns-then-not-rises-clause-only
returns-then-not-rises-clause-only c = λ same wants h.
    let given = c.in_ok-wants.ensures.spelled in
    let answer = rw c.as_slice.ensures.value at c.rises.ensures in
    not_rising _ c.in_ok-wants.wants.items wants c.rises.result answer c.if-not-rises.true given.each given.text h

pub returns-in_err-of-clause-only : goal.returns-in_err-of-clause-only
returns-in_err-of-clause-only c = λ same wants h.
    let bad = passed_on _ _ _ c.from_residual-in_err-of.ensures.1 same in
    let given = c.in_ok-wants.ensures.spelled in
    unlawful c.of.result _ _ _ c.in_ok-wants.wants.items wants c.in_err-of.was bad c.of.ensures.too_many c.of.ensures.twice c.in_ok-wants.wants.ok.0 given.each given.text h

pub returns-clause-spelled : goal.returns-clause-spelled
returns-clause-spelled c =
    let given = c.in_ok-wants.ensures.spelled in
    let sorted = c.in_ok-of.ensures.sorted in
    let up = rw c.as_slice.ensures.value at (answer_true _ _ c.rises.ensures c.if-not-rises.false) in
    let same : c.in_ok-wants.wants.items ≡ c.in_ok-of.field-0 = moved_same _ _ up sorted.1 c.in_ok-of.ensures.same in
    record { lawful = (subst (All IsWant) same given.each, sorted); text = given.text ∙ ap (map want_text) same }
