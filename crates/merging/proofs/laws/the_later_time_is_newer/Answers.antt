use Rattle.merging.proofs.NewerLaws.{later_is_newer}
use Rattle.merging.proofs.laws.the_later_time_is_newer.Goals as goal

pub returns : goal.returns
returns c = later_is_newer
