use Rattle.names.proofs.NameLaws.{slot_text-injective}
use Rattle.names.proofs.laws.one_slot_per_text.Goals as goal

pub returns : goal.returns
returns c = slot_text-injective
