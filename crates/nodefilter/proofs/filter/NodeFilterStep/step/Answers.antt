use Rattle.nodefilter.proofs.filter.NodeFilterStep.step.Goals as goal

pub returns : goal.returns
returns g c = rw c.of.ensures c.text_of.ensures
