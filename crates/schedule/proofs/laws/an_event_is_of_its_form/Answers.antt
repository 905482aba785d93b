use Rattle.schedule.proofs.FitLemmas.{of_form}
use Rattle.schedule.proofs.laws.an_event_is_of_its_form.Goals as goal

pub returns : goal.returns
returns c = of_form
