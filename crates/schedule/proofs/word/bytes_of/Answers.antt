use Rattle.schedule.proofs.HexLemmas.{lower_spelled, lower_no_upper, unread}
use Rattle.words.proofs.WordLemmas.{passed_on}
use Rattle.schedule.proofs.word.bytes_of.Goals as goal

pub returns-then-has_upper-clause-only : goal.returns-then-has_upper-clause-only
returns-then-has_upper-clause-only c = λ same bytes h e.
    let none = rw (← e, ← c.as_bytes.ensures.value, ← c.has_upper.ensures) at (lower_no_upper bytes h) in
    cc (none, c.if-has_upper.true)

pub returns-in_err-bytes-clause-only : goal.returns-in_err-bytes-clause-only
returns-in_err-bytes-clause-only c = λ same bytes h e.
    unread c.args.word.now bytes _ c.in_err-bytes.ensures.err (passed_on _ _ _ c.from_residual.ensures.1 same) h e

pub returns-clause-spelled : goal.returns-clause-spelled
returns-clause-spelled c =
    lower_spelled c.args.word.now c.in_ok-bytes.bytes.items c.in_ok-bytes.ensures.ok (rw (c.has_upper.ensures, c.as_bytes.ensures.value) at c.if-has_upper.false)
