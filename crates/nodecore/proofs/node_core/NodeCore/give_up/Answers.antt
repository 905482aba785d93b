use Rattle.std.proofs.Common.{sym}
use Rattle.nodecore.proofs.node_core.NodeCore.give_up.Goals as goal

pub returns-clause-work : goal.returns-clause-work
returns-clause-work c = λ at get.
    let node = sym (c.end.ensures.shown at get) in
    let sends = sym c.in_ok-sends.ensures in
    λ j. record { node = node j; sends = sends j; note = c.args.note }
