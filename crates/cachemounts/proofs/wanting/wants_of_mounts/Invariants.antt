use Rattle.std.proofs.Common.{◌≤◌, take, length}
use Rattle.std.specs.List.{IsDistinct}
use Rattle.names.specs.Folders.{folder_eq}
use Rattle.farm_base.specs.Wanted.{folders}
use Rattle.vertices.specs.OpChecks.{cache_count}
use Rattle.cachemounts.specs.CacheWants.{AreWantsOf}
use Rattle.cachemounts.proofs.wanting.wants_of_mounts.Given as goal

-- the wants of the mounts so far, no folder twice, and no more than there are cache mounts
abbrev pub invariant-loop-mount : goal.invariant-loop-mount
invariant-loop-mount l = record {
  are : AreWantsOf l.outputs (take l.mount-index l.mounts) l.wants.items;
  distinct : IsDistinct folder_eq (folders l.wants.items);
  few : length l.wants.items ≤ cache_count (take l.mount-index l.mounts);
}
