use Rattle.names.proofs.NameLaws.{key_text-injective}
use Rattle.names.proofs.laws.one_key_per_text.Goals as goal

pub returns : goal.returns
returns c = key_text-injective
