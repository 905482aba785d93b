use Rattle.std.proofs.Common.{refl, sym, subst, ◌∙◌}
use Rattle.std.proofs.lemmas.Result.{IfOk-weaker}
use Rattle.names.specs.Decimals.{Lacks}
use Rattle.names.proofs.TextLemmas.{Lacks-middle}
use Rattle.words.proofs.WordLemmas.{last_same}
use Rattle.schedule.specs.Lacks.{IsLeftLack}
use Rattle.schedule.proofs.word_fault.left_lack.Goals as goal

pub returns-in-Some : goal.returns-in-Some
returns-in-Some c =
    let split = c.in-Some.ensures.found in
    let front = c.in-Some.slot.now in
    let behind = c.in-Some.digits.now in
    IfOk-weaker c.parts_lack.result _ (IsLeftLack c.args.word.now)
    (λ fault h. record {
      whole = λ lacks. absurd (Lacks-middle 61 front behind (subst (Lacks 61) split.0 lacks));
      parts = λ slot digits e l.
          let same = last_same 61 slot front digits behind (sym e ∙ split.0) l split.1 in
          rw (same.0, same.1) h;
    })
    c.parts_lack.ensures

pub returns-in-None : goal.returns-in-None
returns-in-None c = record {
  whole = λ lacks. refl;
  parts = λ slot digits e l. absurd (Lacks-middle 61 slot digits (subst (Lacks 61) e c.in-None.ensures.only));
}
