use Rattle.std.proofs.Common.{take}
use Rattle.std.specs.List.{Contains}
use Rattle.farm_base.specs.Wanted.{folders}
use Rattle.cachemounts.proofs.wanting.place_of.Given as goal

-- the folder isn't that of a want so far
abbrev pub invariant-loop-place : goal.invariant-loop-place
invariant-loop-place l = Contains (folders (take l.place l.wants)) l.folder → ⊥
