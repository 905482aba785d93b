use Rattle.std.proofs.Common.{sym, ap, ◌∙◌}
use Rattle.std.specs.Option.{option_copied}
use Rattle.folders.specs.Reading.{is_above}
use Rattle.folders.proofs.FileLaws.{path_no_text, path_falls, path_read}
use Rattle.folders.proofs.reading.first_path.Goals as goal

pub returns-in_default : goal.returns-in_default
returns-in_default c = sym (path_no_text (option_copied c.args.last) c.args.bytes.now c.in_ok-path.path.now c.in_ok-path.rest.now (sym c.in_ok-path.ensures) c.in_default.ensures.cases.0)

pub returns-then-not-is_above : goal.returns-then-not-is_above
returns-then-not-is_above c =
    let cases = c.in-Ok.ensures.cases in
    sym (path_falls (option_copied c.args.last) c.args.bytes.now c.in_ok-path.path.now c.in_ok-path.rest.now (sym c.in_ok-path.ensures) cases.1
    (ap (is_above (option_copied c.args.last)) (sym cases.0) ∙ sym c.is_above.ensures ∙ c.if-not-is_above.true))

pub returns : goal.returns
returns c =
    let cases = c.in-Ok.ensures.cases in
    rw cases.0 (sym (path_read (option_copied c.args.last) c.args.bytes.now c.in_ok-path.path.now c.in_ok-path.rest.now (sym c.in_ok-path.ensures) cases.1
    (ap (is_above (option_copied c.args.last)) (sym cases.0) ∙ sym c.is_above.ensures ∙ c.if-not-is_above.false)))
