use Rattle.std.proofs.Common.{◌≡◌, None, ap, sym, ◌∙◌, rules}
use Rattle.std.specs.Option.{option_copied}
use Rattle.protocol.specs.Ledger.{Ledger}
use Rattle.protocol.specs.Machine.{LineVersion}
use Rattle.std.proofs.Common.{List}
use Rattle.versions.specs.Line.{number_in}
use Rattle.world.specs.Shown.{shown}
use Rattle.farmhistory.specs.Lines.{number_on}
use Rattle.farmhistory.proofs.LineLemmas.{number_shown, line_lent}
use Rattle.farmhistory.proofs.lines.number_on.Goals as goal

pub returns-in_err-line : goal.returns-in_err-line
returns-in_err-line c =
    let none : number_on (shown c.args.world.now) c.args.ticket c.args.slot.now ≡ None =
    ap (λ (q : Ledger). number_in (q.line c.args.slot.now) c.args.ticket) (sym c.coordinator.ensures.ledger)
    ∙ number_shown _ c.args.ticket (option_copied c.line.result) c.line.ensures (ap option_copied c.in_err-line.was) in
    let gone : c.from_residual.result ≡ None = search rules in
    gone ∙ sym none

pub returns : goal.returns
returns c =
    let lent = line_lent _ c.in_ok-line.field-0.now (option_copied c.line.result) c.line.ensures (ap option_copied c.in_ok-line.was) in
    c.number_of.ensures.value ∙ ap (λ (l : List LineVersion). number_in l c.args.ticket) lent ∙ ap (λ (q : Ledger). number_in (q.line c.args.slot.now) c.args.ticket) c.coordinator.ensures.ledger
