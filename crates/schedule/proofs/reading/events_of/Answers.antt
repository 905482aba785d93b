use Rattle.std.proofs.Common.{◌==◌, rules, arith, tests, subst}
use Rattle.std.proofs.lemmas.List.{length_push, length-map}
use Rattle.std.proofs.lemmas.Result.{err_from_is_err_and}
use Rattle.std.proofs.lemmas.Iterator.Splits.{YieldsList-from_slice_split}
use Rattle.std.proofs.lemmas.Iterator.Consumers.{YieldsList-at, YieldsList-end}
use Rattle.words.specs.Words.{texts}
use Rattle.schedule.specs.Schedules.{AreEvents}
use Rattle.schedule.proofs.ScheduleLemmas.{events_more, line_here, refused_here}
use Rattle.schedule.proofs.reading.events_of.Goals as goal

pub loop-line-preserved : goal.loop-line-preserved
loop-line-preserved c =
    let len = length_push c.loop-line.yielded c.in-Some.line in
    let inv = c.loop-line.invariant in
    record {
      can_go_on = search rules;
      ends = search rules;
      number = omega arith;
      read = events_more c.loop-line.yielded c.loop-line.events.items c.push_event.new.events.items c.in-Some.line inv.read c.in_ok-push_event.ensures.added;
    }

pub returns-in_err-push_event-clause-refused : goal.returns-in_err-push_event-clause-refused
returns-in_err-push_event-clause-refused c =
    let inv = c.loop-line.invariant in
    let len = length-map c.loop-line.yielded (λ w. w.now) in
    let here = line_here
    (YieldsList-at c.into_iter-line-iterator.ensures.into_iter_gives
    (YieldsList-from_slice_split _ (λ b. b == 10) c.args.text.now c.split-line-items.ensures.rest c.split-line-items.ensures.done c.split-line-items.ensures.closure (λ x r q k. search (rules, tests))))
    c.loop-line.yielded _ c.loop-line.yielded_by _ _ c.in-Some.line c.in-Some.is c.next.ensures.steps in
    let p = err_from_is_err_and c.from_residual.result c.from_residual.ensures.1 in
    rw (p.1, p.2) (refused_here _ (texts c.loop-line.yielded) c.in-Some.line.now _ c.loop-line.events.items _ _ here inv.read (omega arith) c.in_err-push_event.ensures.refused)

pub returns-clause-events : goal.returns-clause-events
returns-clause-events c =
    let all = YieldsList-end
    (YieldsList-at c.into_iter-line-iterator.ensures.into_iter_gives
    (YieldsList-from_slice_split _ (λ b. b == 10) c.args.text.now c.split-line-items.ensures.rest c.split-line-items.ensures.done c.split-line-items.ensures.closure (λ x r q k. search (rules, tests))))
    c.loop-line.yielded _ c.loop-line.yielded_by _ _ c.in-None.is c.next.ensures.steps in
    subst (λ ls. AreEvents ls c.loop-line.events.items) all.0 c.loop-line.invariant.read
