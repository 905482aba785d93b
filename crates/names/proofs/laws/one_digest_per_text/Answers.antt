use Rattle.names.proofs.NameLaws.{digest_text-injective}
use Rattle.names.proofs.laws.one_digest_per_text.Goals as goal

pub returns : goal.returns
returns c = digest_text-injective
