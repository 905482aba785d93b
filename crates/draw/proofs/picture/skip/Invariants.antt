use Rattle.std.proofs.Common.{◌≡◌, drop}
use Rattle.names.specs.Contents.{content_digest}
use Rattle.protocol.specs.Farm.{farm_limits}
use Rattle.protocol.specs.Replay.{run}
use Rattle.world.specs.Shown.{shown}
use Rattle.draw.proofs.picture.skip.Given as goal

abbrev pub invariant-loop-event : goal.invariant-loop-event
invariant-loop-event l = run content_digest farm_limits (drop l.event-index l.events) (shown l.world) ≡ run content_digest farm_limits l.events (shown l.fn.world)
