use Rattle.std.proofs.Common.{◌≡◌, length, drop}
use Rattle.opsproto.specs.Texts.{mount_checked, each_checked, with_front}
use Rattle.opsproto.proofs.texts.check_mounts.Given as goal

abbrev pub invariant-loop-mount : goal.invariant-loop-mount
invariant-loop-mount l =
    (goal.iterator-loop-mount).can_next l.mount-iterator ×
    (goal.iterator-loop-mount).is_finite l.mount-iterator ×
    (with_front l.checked.items (each_checked mount_checked (drop (length l.yielded) l.fn.mounts.items)) ≡ with_front l.fn.checked.items (each_checked mount_checked l.fn.mounts.items))
