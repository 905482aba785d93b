use Rattle.std.proofs.Common.{subst}
use Rattle.keytable.specs.Causes.{IsCause}
use Rattle.solving.proofs.answers.cause_of.Goals as goal

pub returns-in-Ok-Some-clause-cause : goal.returns-in-Ok-Some-clause-cause
returns-in-Ok-Some-clause-cause c = λ wanted there. subst (IsCause c.args.jobs.now.keys wanted) c.in-Ok-Some.field-0-is (c.in-Ok-Some.ensures.cause wanted there)
