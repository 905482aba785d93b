use Rattle.names.proofs.NameLaws.{folder_text-injective}
use Rattle.names.proofs.laws.one_folder_per_text.Goals as goal

pub returns : goal.returns
returns c = folder_text-injective
