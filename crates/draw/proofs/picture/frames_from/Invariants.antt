use Rattle.std.proofs.Common.{◌≡◌, ◌++◌, ◌+◌, drop}
use Rattle.names.specs.Contents.{content_digest}
use Rattle.protocol.specs.Farm.{farm_limits}
use Rattle.protocol.specs.Replay.{run}
use Rattle.world.specs.Shown.{shown}
use Rattle.draw.specs.Pictures.{frames_of, frames_from}
use Rattle.draw.proofs.picture.frames_from.Given as goal

abbrev pub invariant-loop-event : goal.invariant-loop-event
invariant-loop-event l = record {
  count : l.number ≡ l.first + l.event-index;
  frames : l.frames.items ++ frames_of l.number (drop l.event-index l.events) (shown l.world) ≡ frames_from l.first l.events (shown l.fn.world);
  farm : run content_digest farm_limits (drop l.event-index l.events) (shown l.world) ≡ run content_digest farm_limits l.events (shown l.fn.world);
}
