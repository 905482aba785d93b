-- The limits of a farm.
use Rattle.names.specs.Contents.{empty_digest}
use Rattle.names.specs.declared.limits.TheConstants.{INSTANCES, GREATEST}
use Rattle.protocol.specs.Ledger.{Limits}

-- the numbers of instances, tickets, lives and asks that a farm may have
abbrev pub farm_limits : Limits
farm_limits = record { empty = empty_digest; instances = INSTANCES; greatest = GREATEST }
