use Rattle.std.proofs.Common.{◌≡◌, drop}
use Rattle.holdings.specs.Lives.{is_among}
use Rattle.saverecord.specs.Logs.{with_gone}
use Rattle.saverecord.proofs.folding.with_gone.Given as goal

abbrev pub invariant-loop-node : goal.invariant-loop-node
invariant-loop-node l = with_gone (drop l.node-index l.more) (is_among l.nodes.retired) ≡ with_gone l.more (is_among l.fn.nodes.retired)
