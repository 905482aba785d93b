use Rattle.std.proofs.Common.{◌∙◌}
use Rattle.holdings.proofs.NodeLemmas.{among-searched}
use Rattle.holdings.proofs.retired_nodes.RetiredNodes.contains.Goals as goal

pub returns : goal.returns
returns c =
    let found = among-searched c.as_slice.result.now c.args.node.0 c.place_of.result c.place_of.ensures in
    rw (← c.self.view_is, ← c.as_slice.ensures.value) (c.is_ok.ensures.value ∙ found)
