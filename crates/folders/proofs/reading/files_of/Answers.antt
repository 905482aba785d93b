use Rattle.std.proofs.Common.{None, length, sym, inr, arith}
use Rattle.std.specs.Option.{option_copied}
use Rattle.std.proofs.lemmas.Result.{err_from_is_err_and}
use Rattle.folders.specs.Reading.{files_in}
use Rattle.folders.proofs.FileLaws.{file_shorter}
use Rattle.folders.proofs.FileLoop.{goes_on, ends, is_done}
use Rattle.folders.proofs.reading.files_of.Goals as goal

pub returns-in_err-path : goal.returns-in_err-path
returns-in_err-path c =
    let p = err_from_is_err_and c.from_residual.result c.from_residual.ensures.1 in
    let text = c.args.bytes.now in
    rw (p.1, p.2) (inr (ends (files_in (length text) None text) c.loop-last.files.items (option_copied c.loop-last.last) c.loop-last.rest.now c.in_err-path.field-0.0 c.loop-last.invariant (grind arith) (sym c.in_err-path.ensures)))

pub loop-last-smaller : goal.loop-last-smaller
loop-last-smaller c = file_shorter (option_copied c.loop-last.last) c.loop-last.rest.now (c.in_ok-path.path.now, c.in_ok-path.content.now) c.in_ok-path.after.now (sym c.in_ok-path.ensures)

pub loop-last-preserved : goal.loop-last-preserved
loop-last-preserved c =
    let text = c.args.bytes.now in
    let on = goes_on (files_in (length text) None text) c.loop-last.files.items (option_copied c.loop-last.last) c.loop-last.rest.now (c.in_ok-path.path.now, c.in_ok-path.content.now) c.in_ok-path.after.now c.loop-last.invariant (grind arith) (sym c.in_ok-path.ensures) in
    rw (c.in_ok-push.ensures.items, c.in_ok-file_of.ensures.file) on

pub returns : goal.returns
returns c =
    let text = c.args.bytes.now in
    is_done (files_in (length text) None text) c.loop-last.files.items (option_copied c.loop-last.last) c.loop-last.rest.now c.loop-last.invariant (grind arith)
