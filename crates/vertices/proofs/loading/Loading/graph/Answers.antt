use Rattle.std.proofs.Common.{◌<◌, inl, inr, ℕ, List, length, Option, Some, None, refl, sym, subst}
use Rattle.std.specs.List.{AllZip}
use Rattle.std.proofs.lemmas.Option.{slice_get_within}
use Rattle.std.proofs.lemmas.Result.{err_from_is_err_and}
use Rattle.ordering.specs.Orders as orders
use Rattle.ordering.proofs.EntryLemmas.{at_some, at_none, cycle_same}
use Rattle.vertices.specs.Outcomes.{Each}
use Rattle.std.specs.Option.{IfSome}
use Rattle.opsproto.specs.Scalars.{Text}
use Rattle.opsproto.specs.declared.input.Input.{Input}
use Rattle.vertices.specs.Edges.{IsEdge, AreEdges, GoesTo}
use Rattle.vertices.specs.Loaded.{vertices_in}
use Rattle.vertices.specs.Kept.{AreKept, parts}
use Rattle.vertices.specs.Loading.{IsGraph, HasEdge, IsCyclic, ResultCheck, VertexCheck, digests_in}
use Rattle.vertices.proofs.LoadLemmas.{loaded_numbers}
use Rattle.vertices.proofs.GraphLemmas.{all_runnable, result_check, edges_answer, edge_within, edge_named, named_edge, vertex_order}
use Rattle.vertices.proofs.loading.Loading.graph.Goals as goal

pub returns-in_err-result-clause-check : goal.returns-in_err-result-clause-check
returns-in_err-result-clause-check c = λ digests n.
    let p = err_from_is_err_and c.from_residual.result c.from_residual.ensures.1 in
    rw (p.1, p.2) (inr (inl (result_check digests c.args.place c.args.last.now c.in-Some.input.now (Some c.in_err-result.field-0.0) (sym c.in-Some.ensures.value)
    (c.in_err-result.ensures.check c.in-Some.input.now digests (vertices_in c.args.self) c.of.ensures n))))

pub returns-in_err-edges-clause-check : goal.returns-in_err-edges-clause-check
returns-in_err-edges-clause-check c = λ digests n.
    let p = err_from_is_err_and c.from_residual-in_err-edges.result c.from_residual-in_err-edges.ensures.1 in
    let e = c.in_err-edges.field-0.0 in
    let first : ResultCheck digests c.args.place c.args.last.now None
    = result_check digests c.args.place c.args.last.now c.in-Some.input.now None (sym c.in-Some.ensures.value) (c.in_ok-result.ensures.check c.in-Some.input.now digests (vertices_in c.args.self) c.of.ensures n) in
    rw (p.1, p.2) (edges_answer digests c.args.place (vertices_in c.args.self) c.args.last.now e first
    (c.in_err-edges.ensures.check (vertices_in c.args.self) digests c.requires.loaded.1.asked n))

pub edge_order-requires : goal.edge_order-requires
edge_order-requires c =
    let digests = digests_in c.requires.loaded.0 in
    let n = loaded_numbers c.requires.loaded.0 c.args.self c.requires.loaded.1 in
    let vertices = vertices_in c.args.self in
    let are : AllZip (λ v es. AreEdges vertices v.op.inputs es) vertices c.as_slice.result.now
    = subst (λ (es : List (List (ℕ × ℕ))). AllZip (λ v es. AreEdges vertices v.op.inputs es) vertices es) (sym c.as_slice.ensures.value)
    (c.in_ok-edges.ensures.edges vertices digests c.requires.loaded.1.asked n) in
    edge_within digests vertices c.args.self.table n c.as_slice.result.now are

pub returns-in_default-2-clause-check : goal.returns-in_default-2-clause-check
returns-in_default-2-clause-check c = λ digests n.
    let vertices = vertices_in c.args.self in
    let are : AllZip (λ v es. AreEdges vertices v.op.inputs es) vertices c.as_slice.result.now
    = subst (λ (es : List (List (ℕ × ℕ))). AllZip (λ v es. AreEdges vertices v.op.inputs es) vertices es) (sym c.as_slice.ensures.value)
    (c.in_ok-edges.ensures.edges vertices digests c.requires.loaded.1.asked n) in
    let first : ResultCheck digests c.args.place c.args.last.now None
    = result_check digests c.args.place c.args.last.now c.in-Some.input.now None (sym c.in-Some.ensures.value) (c.in_ok-result.ensures.check c.in-Some.input.now digests vertices c.of.ensures n) in
    let each : Each (VertexCheck digests) vertices None
    = c.in_ok-edges.ensures.check vertices digests c.requires.loaded.1.asked n in
    let cycle : IsCyclic vertices = cycle_same (GoesTo c.as_slice.result.now) (HasEdge vertices)
    (edge_named digests vertices c.args.self.table n c.as_slice.result.now are) (at_none c.in_ok-order.field-0 _ c.in_ok-order.ensures.cyclic c.in_default-2.is) in
    inr (inr (first, inr (each, (cycle, refl))))

pub invariant_of-result : goal.invariant_of-result
invariant_of-result c =
    let digests = digests_in c.requires.loaded.0 in
    let n = loaded_numbers c.requires.loaded.0 c.args.self c.requires.loaded.1 in
    let vertices = vertices_in c.args.self in
    let edges = c.in_ok-edges.edges.items in
    let are : AllZip (λ v es. AreEdges vertices v.op.inputs es) vertices edges
    = c.in_ok-edges.ensures.edges vertices digests c.requires.loaded.1.asked n in
    let order = at_some c.in_ok-order.field-0 _ c.in-Some-2.order c.in_ok-order.ensures.order c.in-Some-2.is in
    let acyclic = at_some c.in_ok-order.field-0 _ c.in-Some-2.order c.in_ok-order.ensures.acyclic c.in-Some-2.is in
    let edge = c.in_ok-result.ensures.edge c.in-Some.input.now digests vertices c.of.ensures n in
    subst (λ (entries : List (List ℕ)). AreKept entries c.args.self.sources.items (parts entries c.args.self.sources.items edges c.in-Some-2.order.items c.in_ok-result.result)) (sym c.in_ok-entries.ensures)
    (record {
      graph = record {
        runnable = all_runnable digests vertices (c.in_ok-edges.ensures.check vertices digests c.requires.loaded.1.asked n);
        edges = are;
        order = vertex_order digests vertices c.args.self.table n edges are c.in-Some-2.order.items
            (subst (λ (es : List (List (ℕ × ℕ))). orders.IsOrder (λ a. a < length es) (GoesTo es) c.in-Some-2.order.items) c.as_slice.ensures.value order);
        acyclic = λ cycle. acyclic (subst (λ (es : List (List (ℕ × ℕ))). orders.IsCyclic (GoesTo es)) (sym c.as_slice.ensures.value)
            (cycle_same (HasEdge vertices) (GoesTo edges) (named_edge digests vertices c.args.self.table n edges are) cycle));
        result = slice_get_within vertices c.in_ok-result.result.0 edge.vertex edge.there;
      };
      ops = c.requires.loaded.1.sources;
    })

pub returns-clause-check : goal.returns-clause-check
returns-clause-check c = λ digests n.
    let vertices = vertices_in c.args.self in
    let edges = c.in_ok-edges.edges.items in
    let are : AllZip (λ v es. AreEdges vertices v.op.inputs es) vertices edges
    = c.in_ok-edges.ensures.edges vertices digests c.requires.loaded.1.asked n in
    let first : ResultCheck digests c.args.place c.args.last.now None
    = result_check digests c.args.place c.args.last.now c.in-Some.input.now None (sym c.in-Some.ensures.value) (c.in_ok-result.ensures.check c.in-Some.input.now digests vertices c.of.ensures n) in
    let each : Each (VertexCheck digests) vertices None
    = c.in_ok-edges.ensures.check vertices digests c.requires.loaded.1.asked n in
    let acyclic = at_some c.in_ok-order.field-0 _ c.in-Some-2.order c.in_ok-order.ensures.acyclic c.in-Some-2.is in (
      first,
      (
        each,
        λ cycle. acyclic (subst (λ (es : List (List (ℕ × ℕ))). orders.IsCyclic (GoesTo es)) (sym c.as_slice.ensures.value)
            (cycle_same (HasEdge vertices) (GoesTo edges) (named_edge digests vertices c.args.self.table n edges are) cycle)),
      ),
    )

pub returns-clause-graph : goal.returns-clause-graph
returns-clause-graph c =
    let digests = digests_in c.requires.loaded.0 in
    let n = loaded_numbers c.requires.loaded.0 c.args.self c.requires.loaded.1 in
    let vertices = vertices_in c.args.self in
    let edges = c.in_ok-edges.edges.items in
    let are : AllZip (λ v es. AreEdges vertices v.op.inputs es) vertices edges
    = c.in_ok-edges.ensures.edges vertices digests c.requires.loaded.1.asked n in
    let order = at_some c.in_ok-order.field-0 _ c.in-Some-2.order c.in_ok-order.ensures.order c.in-Some-2.is in
    let acyclic = at_some c.in_ok-order.field-0 _ c.in-Some-2.order c.in_ok-order.ensures.acyclic c.in-Some-2.is in
    let edge = c.in_ok-result.ensures.edge c.in-Some.input.now digests vertices c.of.ensures n in
    subst (λ (entries : List (List ℕ)). IsGraph (parts entries c.args.self.sources.items edges c.in-Some-2.order.items c.in_ok-result.result)) (sym c.in_ok-entries.ensures)
    (record {
      runnable = all_runnable digests vertices (c.in_ok-edges.ensures.check vertices digests c.requires.loaded.1.asked n);
      edges = are;
      order = vertex_order digests vertices c.args.self.table n edges are c.in-Some-2.order.items
          (subst (λ (es : List (List (ℕ × ℕ))). orders.IsOrder (λ a. a < length es) (GoesTo es) c.in-Some-2.order.items) c.as_slice.ensures.value order);
      acyclic = λ cycle. acyclic (subst (λ (es : List (List (ℕ × ℕ))). orders.IsCyclic (GoesTo es)) (sym c.as_slice.ensures.value)
          (cycle_same (HasEdge vertices) (GoesTo edges) (named_edge digests vertices c.args.self.table n edges are) cycle));
      result = slice_get_within vertices c.in_ok-result.result.0 edge.vertex edge.there;
    })

pub returns-clause-result : goal.returns-clause-result
returns-clause-result c =
    let edge = c.in_ok-result.ensures.edge c.in-Some.input.now (digests_in c.requires.loaded.0) (vertices_in c.args.self) c.of.ensures
    (loaded_numbers c.requires.loaded.0 c.args.self c.requires.loaded.1) in
    subst (λ (found : Option (Input Text)). IfSome found (λ input. IsEdge (vertices_in c.args.self) input c.in_ok-result.result)) c.in-Some.ensures.value edge
