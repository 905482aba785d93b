-- Whom a message is for (this project's own).
use Rattle.names.specs.declared.number.NodeId.{NodeId}
use Rattle.names.specs.declared.number.Life.{Life}
use Rattle.farm_base.specs.declared.message.FromCoord.{FromCoord}
use Rattle.farm_base.specs.declared.message.FromCoord.TheVariants.{Granted, Committed, Fenced, Denied, Recall}
use Rattle.farm_base.specs.declared.message.ToNode.{ToNode}
use Rattle.farm_base.specs.declared.message.ToNode.TheVariants as to_node

-- the node that the coordinator tells
abbrev pub told_to : FromCoord → NodeId
told_to (Granted grant) = grant.node
told_to (Committed node life ticket versions) = node
told_to (Fenced node life ticket) = node
told_to (Denied node life ask why) = node
told_to (Recall node life ticket) = node

-- the life of that node
abbrev pub told_life : FromCoord → Life
told_life (Granted grant) = grant.life
told_life (Committed node life ticket versions) = life
told_life (Fenced node life ticket) = life
told_life (Denied node life ask why) = life
told_life (Recall node life ticket) = life

-- the node that a message is for
abbrev pub receiver : ToNode → NodeId
receiver (to_node.FromCoord told) = told_to told
receiver (to_node.Fetch fetch) = fetch.node
receiver (to_node.Blob node content) = node
