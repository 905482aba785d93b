use Rattle.std.proofs.Common.{◌≡◌, ℕ, List, [], length, eqb, true, inr, ap, ◌∙◌}
use Rattle.std.specs.Result.{result_err}
use Rattle.saverecord.specs.Texts.{Texts}
use Rattle.saverecord.proofs.LogLemmas.{read_alone}
use Rattle.answers.proofs.record.whole_of.Goals as goal

pub returns-in-Ok-read-clause-kept : goal.returns-in-Ok-read-clause-kept
returns-in-Ok-read-clause-kept c =
    let log = c.in-Ok.log in
    let bytes = c.in_ok-write-in-Ok-read in (
      log,
      c.in-Ok.ensures.texts,
      read_alone log bytes.field-0.items c.in-Ok-read.record c.in-Ok-read.ensures.kept bytes.ensures.again c.in-Ok-read.ensures.exact,
      inr (ap result_err c.in-Ok-read.ensures.exact),
    )

pub returns-in-Ok-read-clause-alone : goal.returns-in-Ok-read-clause-alone
returns-in-Ok-read-clause-alone c = λ texts are none.
    let log : Texts = c.in-Ok.log in
    let same : log ≡ texts = c.what_is_held_is_given.ensures (record { whole = c.args.whole.items; log = c.args.tail.now }) texts log are c.in-Ok.ensures.texts in
    let gone : c.entries.result.now ≡ [] = c.entries.ensures ∙ ap (λ (t : Texts). t.entries) same ∙ none in
    let told : c.is_empty.result ≡ true = c.is_empty.ensures ∙ ap (λ (entries : List (List ℕ)). eqb (length entries) 0) gone in
    absurd (cc (told, c.if-is_empty.false))
