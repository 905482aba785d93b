use Rattle.std.proofs.Common.{◌≡◌, ◌∙◌, List, Some, length, slice_get, ap, subst}
use Rattle.vertices.specs.Loading.{GraphParts}
use Rattle.vertices.proofs.GraphLemmas.{list_at-get}
use Rattle.solving.proofs.work.fit.Goals as goal

pub returns : goal.returns
returns c =
    let place = c.in-Some.place in
    let edges = c.inputs_of.result.now in
    let at : slice_get place.keyed.now.graph.edges place.vertex ≡ Some edges = subst (λ (graph : GraphParts). slice_get graph.edges place.vertex ≡ Some edges) c.graph.ensures c.inputs_of.ensures in
    let same : length edges ≡ length c.args.task.now.inputs.items = search in
    record {
      place = c.in-Some.ensures;
      inputs = ap (λ (es : List _). length es) (list_at-get place.keyed.now.graph.edges place.vertex edges at) ∙ same;
      wants = c.in_ok-wants.ensures;
    }
