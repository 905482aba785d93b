use Rattle.std.proofs.Common.{arith}
use Rattle.std.proofs.lemmas.Result.{err_from_is_err_and}
use Rattle.schedule.proofs.ScheduleLemmas.{refused_behind, refused_first}
use Rattle.schedule.proofs.reading.read_schedule.Goals as goal

pub returns-in_default-clause-refused : goal.returns-in_default-clause-refused
returns-in_default-clause-refused c = refused_first c.args.bytes.now _ _ (omega arith) c.first_line.ensures c.in_default.ensures.only

pub returns-in_err-events-in-Some-others-clause-refused : goal.returns-in_err-events-in-Some-others-clause-refused
returns-in_err-events-in-Some-others-clause-refused c =
    let p = err_from_is_err_and c.from_residual.result c.from_residual.ensures.1 in
    let split = rw c.in-Some-others.is at c.first_line.ensures in
    rw (p.1, p.2) (refused_behind c.args.bytes.now _ _ c.in-Some.setup _ (omega arith) split c.in-Some.ensures.found c.in_err-events-in-Some-others.ensures.refused)
