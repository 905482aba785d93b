use Rattle.std.proofs.Common.{ℕ, Some, None, sym, ap, ◌∙◌, List, [], ◌∷◌, ◌++◌, take, subst, arith}
use Rattle.std.specs.List.{AllZip}
use Rattle.std.proofs.lemmas.List.{take_all}
use Rattle.std.proofs.lemmas.Option.{slice_get-get_or}
use Rattle.std.proofs.lemmas.Result.{err_from_is_err_and}
use Rattle.lists.proofs.Places.{take_push, AllZip-push}
use Rattle.vertices.specs.declared.unresolved.Asked.{Asked}
use Rattle.vertices.specs.declared.vertex.Vertex.{Vertex}
use Rattle.vertices.specs.Asked.{Asks}
use Rattle.vertices.specs.Outcomes.{Each}
use Rattle.vertices.specs.Edges.{AreEdges}
use Rattle.vertices.specs.Loading.{VertexCheck}
use Rattle.vertices.proofs.CheckLemmas.{each_more, each_answers}
use Rattle.vertices.proofs.ZipLemmas.{all_zip_length, all_zip_back}
use Rattle.vertices.proofs.building.edges_of_each.Goals as goal

pub returns-in_err-vertex_edges-clause-check : goal.returns-in_err-vertex_edges-clause-check
returns-in_err-vertex_edges-clause-check c = λ vertices digests zip n.
    let p = err_from_is_err_and c.from_residual-in_err-vertex_edges.result c.from_residual-in_err-vertex_edges.ensures.1 in
    let k = c.loop-asked.asked-index in
    let at = slice_get-get_or c.args.all.now k c.asked-item.result c.loop-asked-test.true ∙ ap (λ (a : Asked). Some a) (sym c.asked-item.is) in
    let x = all_zip_back Asks vertices c.args.all.now k c.asked-item.result zip at in
    rw (p.1, p.2) (each_answers (VertexCheck digests) vertices k x.0 c.in_err-vertex_edges.field-0.0 x.1
    (c.loop-asked.invariant.passes vertices digests zip n) (c.in_err-vertex_edges.ensures.check x.0 digests vertices x.2 n))

pub loop-asked-preserved : goal.loop-asked-preserved
loop-asked-preserved c =
    let k = c.loop-asked.asked-index in
    let at = slice_get-get_or c.args.all.now k c.asked-item.result c.loop-asked-test.true ∙ ap (λ (a : Asked). Some a) (sym c.asked-item.is) in
    record {
      passes = λ vertices digests zip n.
          let x = all_zip_back Asks vertices c.args.all.now k c.asked-item.result zip at in
          each_more (VertexCheck digests) vertices k x.0 x.1 (c.loop-asked.invariant.passes vertices digests zip n) (c.in_ok-vertex_edges.ensures.check x.0 digests vertices x.2 n);
      edges = λ vertices digests zip n.
          let x = all_zip_back Asks vertices c.args.all.now k c.asked-item.result zip at in
          subst (λ (vs : List Vertex). AllZip (λ v es. AreEdges vertices v.op.inputs es) vs c.push.new.self.items) (sym (take_push vertices k x.0 x.1))
          (subst (λ (es : List (List (ℕ × ℕ))). AllZip (λ v es. AreEdges vertices v.op.inputs es) (take k vertices ++ x.0 ∷ []) es) (sym c.in_ok-push.ensures.items)
          (AllZip-push (λ v es. AreEdges vertices v.op.inputs es) (take k vertices) c.loop-asked.edges.items x.0 c.new.result
          (c.loop-asked.invariant.edges vertices digests zip n)
          (subst (AreEdges vertices x.0.op.inputs) (sym c.new.ensures) (c.in_ok-vertex_edges.ensures.edges x.0 digests vertices x.2 n))));
    }

pub returns-clause-check : goal.returns-clause-check
returns-clause-check c = λ vertices digests zip n.
    let len = all_zip_length Asks vertices c.args.all.now zip in
    subst (λ (vs : List Vertex). Each (VertexCheck digests) vs None) (take_all c.loop-asked.asked-index vertices (omega (arith, c.loop-asked-test.false)))
    (c.loop-asked.invariant.passes vertices digests zip n)

pub returns-clause-edges : goal.returns-clause-edges
returns-clause-edges c = λ vertices digests zip n.
    let len = all_zip_length Asks vertices c.args.all.now zip in
    subst (λ (vs : List Vertex). AllZip (λ v es. AreEdges vertices v.op.inputs es) vs c.loop-asked.edges.items) (take_all c.loop-asked.asked-index vertices (omega (arith, c.loop-asked-test.false)))
    (c.loop-asked.invariant.edges vertices digests zip n)
