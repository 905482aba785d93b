use Rattle.std.proofs.Common.{rules, ◌<◌, length, Err, sym, ap, subst, ◌∙◌, arith}
use Rattle.names.specs.Decimals.{Lacks}
use Rattle.names.proofs.NameLemmas.{Lacks-middle, split_same}
use Rattle.merging.specs.Texts.{line_words, IsLine}
use Rattle.merging.proofs.TextLaws.{next_line, words_lack, line_is, more_lines, passed_on}
use Rattle.merging.proofs.text.lines_of.Goals as goal

pub returns-in_default-clause-only : goal.returns-in_default-clause-only
returns-in_default-clause-only c = λ same lines are e.
    let long : 0 < length c.loop-rest.rest.now = grind arith in
    let next = next_line c.args.text.now c.loop-rest.rest.now c.loop-rest.lines.items lines c.loop-rest.invariant.lines are c.loop-rest.invariant.spelled e long in
    Lacks-middle 10 (line_words next.0) next.1 (subst (Lacks 10) next.3 c.in_default.ensures.only)

pub returns-in_err-line_of-clause-only : goal.returns-in_err-line_of-clause-only
returns-in_err-line_of-clause-only c = λ same lines are e.
    let bad = passed_on _ _ _ c.from_residual.ensures.1 same in
    let long : 0 < length c.loop-rest.rest.now = grind arith in
    let next = next_line c.args.text.now c.loop-rest.rest.now c.loop-rest.lines.items lines c.loop-rest.invariant.lines are c.loop-rest.invariant.spelled e long in
    let found = c.in-Some.ensures.found in
    let parts = split_same 10 c.in-Some.line.now (line_words next.0) c.in-Some.behind.now next.1 (sym found.0 ∙ next.3) found.1 (words_lack next.0 next.2) in
    c.in_err-line_of.ensures.only (ap Err bad) next.0 next.2.path parts.0

pub loop-rest-preserved : goal.loop-rest-preserved
loop-rest-preserved c =
    let found = c.in-Some.ensures.found in
    let is : IsLine c.in_ok-line_of.field-0 = line_is c.in_ok-line_of.field-0 c.in-Some.line.now c.in_ok-line_of.ensures.spelled found.1 c.in_ok-line_of.ensures.bytes in
    let more = more_lines c.args.text.now c.loop-rest.rest.now c.in-Some.line.now c.in-Some.behind.now c.loop-rest.lines.items c.push.new.self.items c.in_ok-line_of.field-0
    c.loop-rest.invariant.spelled c.loop-rest.invariant.lines found.0 c.in_ok-line_of.ensures.spelled is c.in_ok-push.ensures.items in
    record { spelled = more.0; lines = more.1; utf8 = search rules }
