use Rattle.std.proofs.Common.{take}
use Rattle.cachemounts.specs.CacheViews.{AreViewsOf}
use Rattle.cachemounts.proofs.viewing.views_of_mounts.Given as goal

-- the views of the mounts so far
abbrev pub invariant-loop-place : goal.invariant-loop-place
invariant-loop-place l = AreViewsOf l.outputs (take l.place l.mounts) l.wants l.views.items
