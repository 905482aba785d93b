-- What contracts see of a world.
use Rattle.protocol.specs.Replay.{Farm}
use Rattle.world.specs.declared.world.World.{World}
use Rattle.world.specs.Parts.{shown_parts}

-- the protocol's farm
unfoldable pub shown : World → Farm
shown w = shown_parts w.parts.value
