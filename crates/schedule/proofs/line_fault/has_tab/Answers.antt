use Rattle.std.proofs.Common.{arith, ◌∙◌}
use Rattle.std.proofs.lemmas.List.{get_or_default}
use Rattle.std.proofs.lemmas.Str.Pattern.{contains_char}
use Rattle.schedule.proofs.line_fault.has_tab.Goals as goal

pub returns : goal.returns
returns c =
    let text = c.args.text.now in
    let answer = c.contains.result in
    let has = contains_char 9 text answer c.contains.ensures.cases (omega arith) in (
      λ h. let at = has.0 h in (at.0, at.1, get_or_default text at.0 9 0 at.1 ∙ at.2),
      λ h. has.1 h.0 h.1 (get_or_default text h.0 0 9 h.1 ∙ h.2),
    )
