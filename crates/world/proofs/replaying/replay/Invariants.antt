use Rattle.std.proofs.Common.{◌≡◌, drop}
use Rattle.names.specs.Contents.{content_digest}
use Rattle.protocol.specs.Farm.{farm_limits}
use Rattle.protocol.specs.Replay.{opening, run}
use Rattle.world.specs.Shown.{shown}
use Rattle.world.proofs.replaying.replay.Given as goal

abbrev pub invariant-loop-place : goal.invariant-loop-place
invariant-loop-place l = run content_digest farm_limits (drop l.place l.events) (shown l.world) ≡ run content_digest farm_limits l.events (opening content_digest l.fn.setup.nodes)
