-- What contracts see of a world's parts.
use Rattle.std.specs.Prelude.{List, length}
use Rattle.protocol.specs.Machine.{Message}
use Rattle.protocol.specs.Replay.{Farm}
use Rattle.saverecord.specs.Keepers.{Memory}
use Rattle.saverecord.specs.Logs.{saved_in}
use Rattle.coordinator.specs.Held.{ledger}
use Rattle.coordinator.specs.Seen.{Seen}
use Rattle.world.specs.declared.parts.Parts.{Parts}
use Rattle.world.specs.Tables.{node_at}

-- the protocol's farm: what the record holds is what the keeper's texts hold
abbrev pub shown_parts : Parts → Farm
shown_parts p = record {
  size = length p.nodes.cores.items;
  ledger = ledger p.coordinator.held;
  saved = saved_in p.coordinator.keeper.texts;
  down = p.coordinator.down;
  armed = p.coordinator.keeper.armed;
  pool = p.pool.items;
  nodes = node_at p.nodes.cores.items;
}

-- the farm with this coordinator and these messages
abbrev pub with_coordinator : Farm → Seen Memory → List Message → Farm
with_coordinator s c pool =
    record s { ledger = ledger c.held; saved = saved_in c.keeper.texts; down = c.down; armed = c.keeper.armed; pool = pool }
