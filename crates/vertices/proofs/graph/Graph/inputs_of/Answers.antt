use Rattle.std.proofs.Common.{◌≡◌, ℕ, List, length, map, Some, ap, sym, ◌∙◌, arith}
use Rattle.std.specs.List.{slice_get}
use Rattle.std.proofs.lemmas.Option.{slice_get-get_or}
use Rattle.vertices.specs.Edges.{AreEdges}
use Rattle.vertices.specs.Sources.{vertex_of}
use Rattle.vertices.specs.Loading.{GraphParts}
use Rattle.vertices.proofs.ZipLemmas.{all_zip_length}
use Rattle.vertices.proofs.graph.Graph.inputs_of.Goals as goal

pub index-requires : goal.index-requires
index-requires c =
    let vertices = map (vertex_of c.self.inside.entries) c.self.inside.sources.items in
    let len = all_zip_length (λ v es. AreEdges vertices v.op.inputs es) vertices c.self.inside.edges.items c.self.invariant.graph.edges in
    let all : length vertices ≡ length c.args.self.now.vertices = ap (λ (g : GraphParts). length g.vertices) c.self.view_is in
    let less = c.requires in
    omega (arith, c.self.inside.edges.ok.0)

pub returns : goal.returns
returns c =
    let vertices = map (vertex_of c.self.inside.entries) c.self.inside.sources.items in
    let len = all_zip_length (λ v es. AreEdges vertices v.op.inputs es) vertices c.self.inside.edges.items c.self.invariant.graph.edges in
    let all : length vertices ≡ length c.args.self.now.vertices = ap (λ (g : GraphParts). length g.vertices) c.self.view_is in
    let less = c.requires in
    let edges : c.args.self.now.edges ≡ c.self.inside.edges.items = ap (λ (g : GraphParts). g.edges) (sym c.self.view_is) in
    ap (λ (es : List (List (ℕ × ℕ))). slice_get es c.args.number) edges
    ∙ slice_get-get_or c.self.inside.edges.items c.args.number c.index.result.now (omega arith)
    ∙ ap (λ (e : List (ℕ × ℕ)). Some e) (sym c.index.ensures ∙ sym c.as_slice.ensures)
