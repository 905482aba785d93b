use Rattle.schedule.proofs.UniqueLemmas.{spelled_same}
use Rattle.schedule.proofs.laws.a_line_spells_one_event.Goals as goal

pub returns : goal.returns
returns c = spelled_same
