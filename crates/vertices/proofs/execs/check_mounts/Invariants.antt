use Rattle.std.proofs.Common.{take, None}
use Rattle.vertices.specs.Outcomes.{Each}
use Rattle.vertices.specs.OpChecks.{MountCheck}
use Rattle.vertices.proofs.execs.check_mounts.Given as goal

-- the mounts so far pass
abbrev pub invariant-loop-mount : goal.invariant-loop-mount
invariant-loop-mount l = Each (MountCheck l.place l.inputs) (take l.mount-index l.mounts) None
