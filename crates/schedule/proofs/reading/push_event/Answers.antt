use Rattle.std.proofs.Common.{arith, sym, ◌∙◌}
use Rattle.schedule.proofs.ScheduleLemmas.{not_empty, line_refused}
use Rattle.schedule.proofs.reading.push_event.Goals as goal

pub returns-in-Err-clause-refused : goal.returns-in-Err-clause-refused
returns-in-Err-clause-refused c =
    let len = c.args.events.now.ok.0 in
    rw c.refusal_at.ensures (line_refused c.event_of.result c.in-Err.refusal c.args.line.now c.args.number _ c.in-Err.is
    (not_empty c.args.line.now (sym c.is_empty.ensures ∙ c.if-is_empty.false)) (omega arith) c.event_of.ensures.only)
