use Rattle.farm_base.proofs.VersionLaws.{version_eq-itself, version_exact}
use Rattle.farm_base.proofs.laws.equal_versions_are_one.Goals as goal

pub returns-clause-one : goal.returns-clause-one
returns-clause-one c = version_exact

pub returns-clause-itself : goal.returns-clause-itself
returns-clause-itself c = version_eq-itself
