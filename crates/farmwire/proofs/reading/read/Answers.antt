use Rattle.std.proofs.Common.{ap, sym, subst, ◌∙◌}
use Rattle.std.proofs.lemmas.Result.{IfOk-weaker}
use Rattle.farmwire.specs.Sealed.{IsSpelled}
use Rattle.words.specs.Words.{texts, words}
use Rattle.farmwire.specs.Words.{SpelledBy}
use Rattle.farmwire.proofs.SpelledLemmas.{spelled-from_words, words-from_spelled, utf8-from_spelled}
use Rattle.farmwire.proofs.reading.read.Goals as goal

pub returns-in_default-clause-only : goal.returns-in_default-clause-only
returns-in_default-clause-only c = λ same m h. c.in_default.ensures.cases.0 (utf8-from_spelled c.args.text.now m h)

pub returns-clause-spelled : goal.returns-clause-spelled
returns-clause-spelled c =
    let ws = ap texts c.as_slice.ensures.value ∙ c.in_ok-words.ensures ∙ ap words c.in-Ok.ensures.cases.0 in
    IfOk-weaker c.spelled_by.result _ (IsSpelled c.args.text.now)
    (λ m h. spelled-from_words c.args.text.now m (subst (λ ws. SpelledBy ws m) ws h)) c.spelled_by.ensures.spelled

pub returns-clause-only : goal.returns-clause-only
returns-clause-only c = λ same m h.
    let ws = ap texts c.as_slice.ensures.value ∙ c.in_ok-words.ensures ∙ ap words c.in-Ok.ensures.cases.0 in
    c.spelled_by.ensures.only same m (subst (λ ws. SpelledBy ws m) (sym ws) (words-from_spelled c.args.text.now m h))
