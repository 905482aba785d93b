use Rattle.farmwire.proofs.UniqueLemmas.{text_same}
use Rattle.farmwire.proofs.laws.one_message_per_text.Goals as goal

pub returns : goal.returns
returns c = text_same
