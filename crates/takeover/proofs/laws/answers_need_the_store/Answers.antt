use Rattle.takeover.proofs.Unasked as lemmas
use Rattle.takeover.proofs.laws.answers_need_the_store.Goals as goal

pub returns : goal.returns
returns c = lemmas.fenced_is_committed
