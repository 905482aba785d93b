use Rattle.std.proofs.Common.{◌≢◌, ℕ, List, Some, None, ap, subst, ◌∙◌}
use Rattle.std.proofs.lemmas.Result.{IfOk-weaker}
use Rattle.words.specs.Words.{texts, words}
use Rattle.schedule.specs.declared.fault.LineFault.{LineFault}
use Rattle.schedule.specs.declared.fault.LineFault.TheVariants.{NotUtf8, Spacing, NoSetup, NoEvent, Form}
use Rattle.schedule.specs.Faults.{IsSpacing, IsWordsFault, IsLineFault}
use Rattle.schedule.specs.Words.{SpelledBy}
use Rattle.schedule.proofs.SpelledLemmas.{spelled-from_words}
use Rattle.schedule.proofs.line_fault.why_unread.Goals as goal

pub words_fault-requires : goal.words_fault-requires
words_fault-requires c = λ e h.
    let ws = ap texts c.as_slice-2.ensures.value ∙ c.in_ok-words.ensures ∙ ap words c.in-Ok.ensures.cases.0 in
    c.requires (record {
      first = λ is. absurd (c.if-number-eq1.false is);
      later = λ later filled. (e, spelled-from_words c.args.line.now e (subst (λ ws. SpelledBy ws e) ws h));
    })

pub returns-in-Some : goal.returns-in-Some
returns-in-Some c = subst (λ line. IsSpacing line (Some c.in-Some.spacing)) c.in-Ok.ensures.cases.0 (subst (IsSpacing c.in-Ok.text.now) c.in-Some.is c.spacing_of.ensures)

-- what is wrong with the words of a line is wrong with the line
of_words : (number : ℕ) (line : List ℕ) (fault : LineFault) → number ≢ 1 → IsSpacing line None → IsWordsFault (words line) fault
    → IsLineFault number line fault
of_words number line NotUtf8 later spaced why = absurd why
of_words number line (Spacing spacing) later spaced why = absurd why
of_words number line NoSetup later spaced why = absurd why
of_words number line NoEvent later spaced why = (later, spaced, why)
of_words number line (Form verb fault) later spaced why = (later, spaced, why)

pub returns : goal.returns
returns c =
    let ws = ap texts c.as_slice-2.ensures.value ∙ c.in_ok-words.ensures ∙ ap words c.in-Ok.ensures.cases.0 in
    let spaced : IsSpacing c.args.line.now None =
    subst (λ line. IsSpacing line None) c.in-Ok.ensures.cases.0 (subst (IsSpacing c.in-Ok.text.now) c.in_default-spacing_of.is c.spacing_of.ensures) in
    IfOk-weaker c.words_fault.result _ (IsLineFault c.args.number c.args.line.now)
    (λ fault why. of_words c.args.number c.args.line.now fault c.if-number-eq1.false spaced (subst (λ ws. IsWordsFault ws fault) ws why))
    c.words_fault.ensures
