use Rattle.std.proofs.Common.{Err, ap}
use Rattle.std.proofs.lemmas.List.Elements.{All-push}
use Rattle.words.specs.Words.{want_text, IsWant}
use Rattle.words.proofs.ListLemmas.{spelled_more, stuck_at}
use Rattle.words.proofs.WordLemmas.{passed_on}
use Rattle.words.proofs.want.each_want.Goals as goal

pub returns-in_err-want_of-clause-only : goal.returns-in_err-want_of-clause-only
returns-in_err-want_of-clause-only c = λ same wants each e.
    let bad = passed_on _ _ _ c.from_residual.ensures.1 same in
    stuck_at want_text IsWant c.args.words.now wants c.loop-word.word-index _ c.loop-word-test.true
    (λ want is. c.in_err-want_of.ensures.only (ap Err bad) want is) each e

pub loop-word-preserved : goal.loop-word-preserved
loop-word-preserved c =
    let this = c.in_ok-want_of.ensures in
    let inv = c.loop-word.invariant in
    rw c.in_ok-push.ensures.items (record {
      spelled = spelled_more want_text c.args.words.now c.loop-word.wants.items c.loop-word.word-index _ c.in_ok-want_of.field-0 c.loop-word-test.true inv.spelled this.spelled;
      each = All-push IsWant c.loop-word.wants.items c.in_ok-want_of.field-0 inv.each this.want;
    })
