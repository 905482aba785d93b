use Rattle.std.proofs.Common.{Some, sym, ap, ◌∙◌}
use Rattle.std.proofs.lemmas.Option.{slice_get-get_or}
use Rattle.std.proofs.lemmas.Result.{err_from_is_err_and}
use Rattle.opsproto.specs.declared.exec.Mount.{Mount}
use Rattle.opsproto.specs.Scalars.{Text}
use Rattle.vertices.specs.OpChecks.{MountCheck}
use Rattle.vertices.proofs.CheckLemmas.{each_more, each_fails}
use Rattle.vertices.proofs.execs.check_mounts.Goals as goal

pub returns-in_err-check_mount : goal.returns-in_err-check_mount
returns-in_err-check_mount c =
    let p = err_from_is_err_and c.from_residual.result c.from_residual.ensures.1 in
    let at = slice_get-get_or c.args.mounts.now c.loop-mount.mount-index c.mount-item.result c.loop-mount-test.true
    ∙ ap (λ (m : Mount Text). Some m) (sym c.mount-item.is) in
    rw (p.1, p.2) (each_fails (MountCheck c.args.place c.args.inputs) c.args.mounts.now c.loop-mount.mount-index c.mount-item.result c.in_err-check_mount.field-0.0 at
    c.loop-mount.invariant c.in_err-check_mount.ensures)

pub loop-mount-preserved : goal.loop-mount-preserved
loop-mount-preserved c =
    let at = slice_get-get_or c.args.mounts.now c.loop-mount.mount-index c.mount-item.result c.loop-mount-test.true
    ∙ ap (λ (m : Mount Text). Some m) (sym c.mount-item.is) in
    each_more (MountCheck c.args.place c.args.inputs) c.args.mounts.now c.loop-mount.mount-index c.mount-item.result at
    c.loop-mount.invariant c.in_ok-check_mount.ensures
