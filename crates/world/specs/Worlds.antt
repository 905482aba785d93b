-- What is so of every world.
use Rattle.names.specs.Contents.{content_digest}
use Rattle.names.specs.declared.limits.TheConstants.{NODES}
use Rattle.protocol.specs.Follows.{SafeAfter}
use Rattle.protocol.specs.Lawful.{IsLawfulFarm}
use Rattle.protocol.specs.Replay.{Farm}

pub record IsWorld (s : Farm) : Type 0 where
  -- a run of the protocol leads to it
  pub safe : SafeAfter content_digest s
  -- its numbers are in their ranges
  pub lawful : IsLawfulFarm NODES s
