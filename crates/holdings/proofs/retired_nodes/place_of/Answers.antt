use Rattle.names.specs.declared.number.NodeId.{NodeId}
use Rattle.holdings.proofs.PlaceLemmas.{searched}
use Rattle.holdings.proofs.retired_nodes.place_of.Goals as goal

pub returns : goal.returns
returns c = searched (λ (n : NodeId). n.0) c.args.node.0 c.args.nodes.now c.binary_search.result c.requires c.binary_search.ensures.bound c.binary_search.ensures.position
