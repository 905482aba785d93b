use Rattle.std.proofs.Common.{◌≡◌, take}
use Rattle.opsproto.proofs.owning.own_mounts.Given as goal

abbrev pub invariant-loop-mount : goal.invariant-loop-mount
invariant-loop-mount l = l.own.items ≡ take l.mount-index l.lent
