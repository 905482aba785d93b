use Rattle.std.proofs.Common.{◌∙◌}
use Rattle.merging.proofs.Prefixes.{below_not, below_rest}
use Rattle.merging.proofs.below.is_below.Goals as goal

pub returns-in-None : goal.returns-in-None
returns-in-None c = below_not c.args.dir.now c.args.path.now c.in-None.ensures.cases

pub returns-in-Some : goal.returns-in-Some
returns-in-Some c = c.begins_low.ensures ∙ below_rest c.args.dir.now c.args.path.now c.in-Some.rest.now c.in-Some.ensures.cases.0 c.in-Some.ensures.cases.1
