use Rattle.leases.proofs.LowestLaw as law
use Rattle.leases.proofs.laws.lowest_is_lowest.Goals as goal

pub returns : goal.returns
returns c = law.lowest_is_lowest
