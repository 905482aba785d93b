use Rattle.std.proofs.Common.{◌+◌, subst, sym}
use Rattle.std.proofs.Common.{List}
use Rattle.nodecore.specs.declared.node_core.NodeCore.{NodeCore}
use Rattle.world.specs.Tables.{AreFirstOf}
use Rattle.world.proofs.SeatLemmas.{first_pushed}
use Rattle.world.proofs.nodes.first_cores.Goals as goal

pub loop-number-preserved : goal.loop-number-preserved
loop-number-preserved c = subst (λ (l : List NodeCore). AreFirstOf c.args.count (c.loop-number.number + 1) l) (sym c.in_ok-push.ensures.items) (first_pushed c.args.count c.loop-number.number c.loop-number.cores.items c.in_ok-start.field-0 c.loop-number.invariant c.in_ok-start.ensures.node c.in_ok-start.ensures.place c.in_ok-start.ensures.told)
