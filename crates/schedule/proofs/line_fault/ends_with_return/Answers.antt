use Rattle.std.proofs.Common.{arith}
use Rattle.std.proofs.lemmas.Str.Pattern.{ends_char}
use Rattle.schedule.proofs.line_fault.ends_with_return.Goals as goal

pub returns : goal.returns
returns c =
    let answer = c.ends_with.result in
    let ends = ends_char 13 c.args.text.now answer c.ends_with.ensures.cases (omega arith) in
    (λ h. (_, ends.0 h), λ h. ends.1 h.0 h.1)
