use Rattle.std.proofs.Common.{map, take}
use Rattle.std.specs.List.{Contains}
use Rattle.std.specs.Prelude.{codes}
use Rattle.vertices.proofs.execs.has_root.Given as goal

-- none of the mounts so far is at `/`
abbrev pub invariant-loop-mount : goal.invariant-loop-mount
invariant-loop-mount l = Contains (map (λ mount. mount.dest) (take l.mount-index l.mounts)) (codes "/") → ⊥
