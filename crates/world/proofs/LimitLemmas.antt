-- The limits of a farm are those of its contents.
use Rattle.std.proofs.Common.{arith, refl}
use Rattle.names.specs.Contents.{content_digest, empty_digest}
use Rattle.protocol.specs.Farm.{farm_limits}
use Rattle.protocol.specs.Follows.{IsFarm}

pub is_farm : IsFarm content_digest farm_limits
unfolding empty_digest
is_farm = record { empty = refl; instances = omega arith }
