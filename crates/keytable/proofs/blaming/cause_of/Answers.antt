use Rattle.std.proofs.Common.{Bool, refl, subst}
use Rattle.std.specs.Bool.{MatchBool}
use Rattle.names.specs.declared.digest.Key.{Key}
use Rattle.keytable.specs.Causes.{IsFirstCause, fails, result_lacks, no_cause}
use Rattle.keytable.specs.Failing.{Fails, LacksOutput}
use Rattle.keytable.proofs.CauseLemmas.{unmarked_stands}
use Rattle.keytable.proofs.blaming.cause_of.Goals as goal

pub returns-then-marks-number : goal.returns-then-marks-number
returns-then-marks-number c =
    let es = c.args.table.now.entries.items in
    let found = c.in-Some.ensures.found in
    let cause = c.in_ok-cause.cause in
    fails cause (subst (Fails es) found.2 (c.requires.kept.marked.fail c.in-Some.number found.0 found.1 c.if-marks-number.true))
    (subst (λ (k : Key). IsFirstCause es k cause) found.2 (c.in_ok-cause.ensures found.0 found.1)) refl

pub returns-then-lacks_output : goal.returns-then-lacks_output
returns-then-lacks_output c =
    let es = c.args.table.now.entries.items in
    let input = c.args.wanted.now in
    let found = c.in-Some.ensures.found in
    result_lacks (subst (λ (b : Bool). MatchBool b (LacksOutput es input) (LacksOutput es input → ⊥)) c.if-lacks_output.true c.lacks_output.ensures)
    (unmarked_stands c.args.table.now c.args.marks.now c.requires.kept input.0 c.in-Some.number found.0 found.1 found.2 c.if-marks-number.false) refl

pub returns : goal.returns
returns c =
    let es = c.args.table.now.entries.items in
    let input = c.args.wanted.now in
    let found = c.in-Some.ensures.found in
    no_cause (unmarked_stands c.args.table.now c.args.marks.now c.requires.kept input.0 c.in-Some.number found.0 found.1 found.2 c.if-marks-number.false)
    (subst (λ (b : Bool). MatchBool b (LacksOutput es input) (LacksOutput es input → ⊥)) c.if-lacks_output.false c.lacks_output.ensures) refl
