use Rattle.std.proofs.Common.{ap, sym, subst, ◌∙◌}
use Rattle.std.proofs.lemmas.Result.{IfOk-weaker}
use Rattle.schedule.specs.Lines.{IsSpelled}
use Rattle.words.specs.Words.{texts, words}
use Rattle.schedule.specs.Words.{SpelledBy}
use Rattle.schedule.proofs.SpelledLemmas.{spelled-from_words, words-from_spelled, utf8-from_spelled}
use Rattle.schedule.proofs.line.event_of.Goals as goal

pub returns-in_default-clause-only : goal.returns-in_default-clause-only
returns-in_default-clause-only c = λ same e h. c.in_default.ensures.cases.0 (utf8-from_spelled c.args.line.now e h)

pub returns-clause-spelled : goal.returns-clause-spelled
returns-clause-spelled c =
    let ws = ap texts c.as_slice.ensures.value ∙ c.in_ok-words.ensures ∙ ap words c.in-Ok.ensures.cases.0 in
    IfOk-weaker c.spelled_by.result _ (IsSpelled c.args.line.now)
    (λ e h. spelled-from_words c.args.line.now e (subst (λ ws. SpelledBy ws e) ws h)) c.spelled_by.ensures.spelled

pub returns-clause-only : goal.returns-clause-only
returns-clause-only c = λ same e h.
    let ws = ap texts c.as_slice.ensures.value ∙ c.in_ok-words.ensures ∙ ap words c.in-Ok.ensures.cases.0 in
    c.spelled_by.ensures.only same e (subst (λ ws. SpelledBy ws e) (sym ws) (words-from_spelled c.args.line.now e h))
