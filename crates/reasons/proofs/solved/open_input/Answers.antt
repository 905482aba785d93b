use Rattle.std.proofs.Common.{◌≡◌, ℕ, List, Some, slice_get, sym, subst}
use Rattle.std.specs.Prelude.{IfSome}
use Rattle.std.specs.List.{Contains}
use Rattle.vertices.specs.Loading.{GraphParts}
use Rattle.vertices.proofs.GraphLemmas.{list_at-get}
use Rattle.reasons.proofs.solved.open_input.Goals as goal

pub returns : goal.returns
returns c =
    let at = list_at-get c.args.keyed.now.graph.edges c.args.number c.inputs_of.result.now (subst (λ (g : GraphParts). slice_get g.edges c.args.number ≡ Some c.inputs_of.result.now) c.graph-2.ensures c.inputs_of.ensures) in
    subst (λ (es : List (ℕ × ℕ)). IfSome c.first_open.result (Contains es)) (sym at) c.first_open.ensures
