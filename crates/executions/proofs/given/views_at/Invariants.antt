use Rattle.std.proofs.Common.{take}
use Rattle.std.specs.List.{AllZip}
use Rattle.executions.specs.Given.{IsViewAt}
use Rattle.slotfolders.specs.Seen.{folder_seen}
use Rattle.executions.proofs.given.views_at.Given as goal

-- the views so far
abbrev pub invariant-loop-place : goal.invariant-loop-place
invariant-loop-place l = AllZip (IsViewAt (folder_seen l.seen.leased l.seen.shared) l.wants l.outputs l.mounts) (take l.place-index l.places) l.views.items
