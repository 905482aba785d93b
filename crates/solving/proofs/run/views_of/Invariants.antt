use Rattle.std.proofs.Common.{take}
use Rattle.std.specs.List.{All}
use Rattle.solving.specs.Places.{IsSeenIn, AreOpen}
use Rattle.solving.proofs.run.views_of.Given as goal

-- the folders of the wants so far are there, as they stand
abbrev pub invariant-loop-want : goal.invariant-loop-want
invariant-loop-want l = record {
  seen : All (IsSeenIn l.views.items) (take l.want-index l.wants);
  standing : AreOpen l.live l.views.items;
}
