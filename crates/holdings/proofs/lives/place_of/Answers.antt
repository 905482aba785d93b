use Rattle.std.proofs.Common.{rules}
use Rattle.std.proofs.lemmas.Fn.{always_returns_same}
use Rattle.farm_base.specs.declared.lease.NodeLife.{NodeLife}
use Rattle.holdings.proofs.PlaceLemmas.{searched}
use Rattle.holdings.proofs.lives.place_of.Goals as goal

pub returns : goal.returns
returns c =
    let facts = c.binary_search_by_key.ensures in
    let by_node = facts.position (λ seen. seen.node) (always_returns_same _ _ _ (λ a r g called. search rules)) in
    searched (λ (x : NodeLife). x.node.0) c.args.node.0 c.args.lives.now c.binary_search_by_key.result c.requires facts.bound by_node
