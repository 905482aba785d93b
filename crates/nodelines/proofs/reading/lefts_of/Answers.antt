use Rattle.std.proofs.Common.{Err, ap}
use Rattle.std.proofs.lemmas.List.Elements.{All-push}
use Rattle.words.proofs.ListLemmas.{spelled_more, stuck_at}
use Rattle.words.proofs.WordLemmas.{passed_on}
use Rattle.nodelines.specs.Orders.{left_text, IsLeft}
use Rattle.nodelines.proofs.reading.lefts_of.Goals as goal

pub returns-in_err-left_of-clause-only : goal.returns-in_err-left_of-clause-only
returns-in_err-left_of-clause-only c = λ same lefts each e.
    let bad = passed_on _ _ _ c.from_residual.ensures.1 same in
    stuck_at left_text IsLeft c.args.words.now lefts c.loop-word.word-index _ c.loop-word-test.true
    (λ left is. c.in_err-left_of.ensures.only (ap Err bad) left is) each e

pub loop-word-preserved : goal.loop-word-preserved
loop-word-preserved c =
    let this = c.in_ok-left_of.ensures in
    let inv = c.loop-word.invariant in
    rw c.in_ok-push.ensures.items (record {
      spelled = spelled_more left_text c.args.words.now c.loop-word.lefts.items c.loop-word.word-index _ c.in_ok-left_of.field-0 c.loop-word-test.true inv.spelled this.spelled;
      each = All-push IsLeft c.loop-word.lefts.items c.in_ok-left_of.field-0 inv.each this.left;
    })
