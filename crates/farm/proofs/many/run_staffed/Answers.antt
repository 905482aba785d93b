use Rattle.std.proofs.Common.{◌≡◌}
use Rattle.farm.proofs.many.run_staffed.Goals as goal

pub returns-in-Ok-answered-clause-answers : goal.returns-in-Ok-answered-clause-answers
returns-in-Ok-answered-clause-answers g c =
    rw (c.as_slice-jobs.ensures.value, c.in-Ok-solve_all.ensures.jobs, c.as_slice-hired.ensures.value, c.in-Ok.ensures.nodes, c.in-Ok.ensures.had, c.as_slice.ensures.value) at c.in-Ok-answered.ensures.answers
