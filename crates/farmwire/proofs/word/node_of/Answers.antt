use Rattle.std.proofs.Common.{◌≡◌, sym, ap, ◌∙◌, arith}
use Rattle.names.specs.declared.number.NodeId.{NodeId}
use Rattle.words.proofs.Spelling.{node_same}
use Rattle.farmwire.proofs.Spelling.{node_fits}
use Rattle.farmwire.proofs.word.node_of.Goals as goal

pub returns-in_err-node-clause-only : goal.returns-in_err-node-clause-only
returns-in_err-node-clause-only c = rw c.from_residual.ensures (λ node fits e. c.in_err-node.ensures.only node (node_fits node fits) e)

pub returns-else-node-ge1-clause-only : goal.returns-else-node-ge1-clause-only
returns-else-node-ge1-clause-only c = λ node fits e.
    let read = c.in_ok-node.ensures in
    let same = node_same c.in_ok-node.node node read.fits (node_fits node fits) (sym read.found ∙ e) in
    let number : c.in_ok-node.node.0 ≡ node.0 = ap (λ (n : NodeId). n.0) same in
    omega arith
