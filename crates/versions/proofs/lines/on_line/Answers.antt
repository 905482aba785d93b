use Rattle.std.proofs.Common.{sym, ◌∙◌}
use Rattle.versions.proofs.LineWords.{place-none, place-number}
use Rattle.versions.proofs.lines.on_line.Goals as goal

pub returns-in_err-number : goal.returns-in_err-number
returns-in_err-number c =
    c.from_residual.ensures ∙ sym (place-none c.args.ticket c.args.line.now 0 (sym c.number_of.ensures.value ∙ c.in_err-number.was))

pub returns : goal.returns
returns c =
    sym (place-number c.args.ticket c.args.line.now c.in_ok-number.number c.in_ok-digest.digest (sym c.number_of.ensures.value ∙ c.in_ok-number.was) (sym c.digest_at.ensures ∙ c.in_ok-digest.was))
