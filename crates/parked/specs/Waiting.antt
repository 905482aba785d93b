-- The changes of one event over the asks that wait.
use Rattle.std.specs.Prelude.{◌==◌, Bool, false, List, ◌++◌}
use Rattle.protocol.specs.Machine.{Parked}
use Rattle.protocol.specs.Ledger.{is_older_ask}
use Rattle.holdings.specs.declared.ending.Ending.{Ending}
use Rattle.holdings.specs.declared.ending.Ending.TheVariants as ending
use Rattle.parked.specs.Over.{still_waiting}
use Rattle.parked.specs.declared.parked_change.ParkedChange.{ParkedChange}

-- the ask is of the node, or of a life of the node below this one. An ask has no ticket
abbrev pub ends_ask : Ending → Parked → Bool
ends_ask (ending.Ticket t) p = false
ends_ask (ending.Node n) p = p.node.0 == n.0
ends_ask (ending.LivesBelow n l) p = is_older_ask n l p

-- the asks that wait, with the changes
abbrev pub waits_after : List Parked → ParkedChange → List Parked
waits_after parked c = still_waiting c.over.places.items parked ++ c.since.items
