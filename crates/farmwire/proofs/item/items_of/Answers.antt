use Rattle.std.proofs.Common.{Err, ap}
use Rattle.words.proofs.ListLemmas.{stuck_at}
use Rattle.words.proofs.WordLemmas.{passed_on}
use Rattle.farmwire.proofs.item.items_of.Goals as goal

pub returns-in_err-read-clause-only : goal.returns-in_err-read-clause-only
returns-in_err-read-clause-only g c = λ same items h.
    let bad = passed_on _ _ _ c.from_residual.ensures.1 same in
    stuck_at g.T.Item.spelling g.T.Item.lawful c.args.words.now items c.loop-word.word-index _ c.loop-word-test.true
    (λ item is. c.in_err-read.ensures.only (ap Err bad) item is) h.each h.text
