use Rattle.names.proofs.CompareLaws.{digest_eq-itself, digest_exact}
use Rattle.names.proofs.laws.equal_digests_are_one.Goals as goal

pub returns-clause-one : goal.returns-clause-one
returns-clause-one c = digest_exact

pub returns-clause-itself : goal.returns-clause-itself
returns-clause-itself c = digest_eq-itself
