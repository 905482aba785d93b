use Rattle.std.proofs.Common.{◌+◌, ◌-◌, ◌/◌, length, arith, sym, ◌∙◌}
use Rattle.std.proofs.lemmas.Cmp.{ranked}
use Rattle.std.specs.declared.cmp.Ordering.TheVariants.{Less, Equal, Greater}
use Rattle.versions.proofs.Searching.{half_has_less, at_most_64, left_above, left_below, found_at, finds, absent, number_at, number_absent, no_number}
use Rattle.versions.proofs.probes.search.Goals as goal

pub probe-requires : goal.probe-requires
probe-requires g c =
    let tickets = g.P.Probed.tickets c.args.probed.now in
    let whole = at_most_64 (length tickets) (omega arith) in
    let some = half_has_less 0 c.loop-left.left c.loop-left-test.true (omega arith) in
    let few = c.loop-left.invariant.few in
    omega arith

pub unwrap-requires : goal.unwrap-requires
unwrap-requires g c =
    let tickets = g.P.Probed.tickets c.args.probed.now in
    finds tickets (g.P.Probed.tickets c.loop-left.probed) (c.loop-left.below + c.loop-left.left / 2) c.probe.result c.probe.ensures.ticket c.loop-left.invariant.same
    (omega (arith, c.loop-left.invariant.here.inside))

pub loop-left-preserved-in-Less : goal.loop-left-preserved-in-Less
loop-left-preserved-in-Less g c =
    let tickets = g.P.Probed.tickets c.args.probed.now in
    let half = c.loop-left.left / 2 in
    let at = found_at tickets (g.P.Probed.tickets c.loop-left.probed) (c.loop-left.below + half) c.probe.result c.unwrap.result c.probe.ensures.ticket c.loop-left.invariant.same c.unwrap.ensures in
    let lower = ranked c.unwrap.result.0 c.args.ticket.0 Less (sym c.in-Less.is ∙ c.cmp.ensures) in
    let less = half_has_less (c.loop-left.left - (half + 1)) c.loop-left.left c.loop-left-test.true (omega arith) in
    record {
      same = c.probe.ensures.same ∙ c.loop-left.invariant.same;
      here = left_above tickets c.args.ticket c.unwrap.result c.loop-left.below c.loop-left.left half c.len-left.ensures.rising c.loop-left.invariant.here (omega arith) at lower;
      counted = omega arith;
      few = omega arith;
    }

pub loop-left-preserved : goal.loop-left-preserved
loop-left-preserved g c =
    let tickets = g.P.Probed.tickets c.args.probed.now in
    let half = c.loop-left.left / 2 in
    let at = found_at tickets (g.P.Probed.tickets c.loop-left.probed) (c.loop-left.below + half) c.probe.result c.unwrap.result c.probe.ensures.ticket c.loop-left.invariant.same c.unwrap.ensures in
    let higher = ranked c.unwrap.result.0 c.args.ticket.0 Greater (sym c.in-Greater.is ∙ c.cmp.ensures) in
    let less = half_has_less half c.loop-left.left c.loop-left-test.true (omega arith) in
    record {
      same = c.probe.ensures.same ∙ c.loop-left.invariant.same;
      here = left_below tickets c.args.ticket c.unwrap.result c.loop-left.below c.loop-left.left half c.len-left.ensures.rising c.loop-left.invariant.here (omega arith) at higher;
      counted = omega arith;
      few = omega arith;
    }

pub returns-in-Equal-clause-value : goal.returns-in-Equal-clause-value
returns-in-Equal-clause-value g c =
    let tickets = g.P.Probed.tickets c.args.probed.now in
    let place = c.loop-left.below + c.loop-left.left / 2 in
    let at = found_at tickets (g.P.Probed.tickets c.loop-left.probed) place c.probe.result c.unwrap.result c.probe.ensures.ticket c.loop-left.invariant.same c.unwrap.ensures in
    let same = ranked c.unwrap.result.0 c.args.ticket.0 Equal (sym c.in-Equal.is ∙ c.cmp.ensures) in
    sym (number_at tickets c.args.ticket c.unwrap.result place c.len-left.ensures.rising at same)

pub returns-in-Equal-clause-few : goal.returns-in-Equal-clause-few
returns-in-Equal-clause-few g c =
    let some = half_has_less 0 c.loop-left.left c.loop-left-test.true (omega arith) in
    let few = c.loop-left.invariant.few in
    omega arith

pub returns-clause-value : goal.returns-clause-value
returns-clause-value g c =
    let tickets = g.P.Probed.tickets c.args.probed.now in
    sym (number_absent tickets c.args.ticket (absent tickets c.args.ticket c.loop-left.below c.loop-left.left c.loop-left.invariant.here c.loop-left-test.false))

pub returns-clause-only : goal.returns-clause-only
returns-clause-only g c =
    let tickets = g.P.Probed.tickets c.args.probed.now in
    no_number tickets c.args.ticket (absent tickets c.args.ticket c.loop-left.below c.loop-left.left c.loop-left.invariant.here c.loop-left-test.false)
