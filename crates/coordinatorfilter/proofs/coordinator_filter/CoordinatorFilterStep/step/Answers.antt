use Rattle.coordinatorfilter.proofs.coordinator_filter.CoordinatorFilterStep.step.Goals as goal

pub returns : goal.returns
returns g c = rw c.of.ensures c.text_of.ensures
