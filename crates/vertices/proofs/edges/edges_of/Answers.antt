use Rattle.std.proofs.Common.{inr, ◌+◌, None, List, sym, take, subst, arith}
use Rattle.std.proofs.lemmas.List.{take_all}
use Rattle.std.proofs.lemmas.Option.{slice_get-get_or}
use Rattle.std.proofs.lemmas.Result.{err_from_is_err_and}
use Rattle.opsproto.specs.declared.input.Input.{Input}
use Rattle.opsproto.specs.Scalars.{Text}
use Rattle.vertices.specs.Asked.{NamesAs}
use Rattle.vertices.specs.Outcomes.{Each}
use Rattle.vertices.specs.Edges.{InputCheck, AreEdges}
use Rattle.vertices.proofs.ZipLemmas.{all_zip_length, all_zip_back}
use Rattle.vertices.proofs.CheckLemmas.{each_more, each_fails, edges_more}
use Rattle.vertices.proofs.edges.edges_of.Goals as goal

pub returns-in_err-edge_of-clause-check : goal.returns-in_err-edge_of-clause-check
returns-in_err-edge_of-clause-check c = λ inputs digests vertices zip n.
    let p = err_from_is_err_and c.from_residual-in_err-edge_of.result c.from_residual-in_err-edge_of.ensures.1 in
    let k = c.loop-named.named-index in
    let x = all_zip_back NamesAs inputs c.args.all.now k _ zip (slice_get-get_or c.args.all.now k _ c.loop-named-test.true) in
    rw (p.1, p.2) (inr (each_fails (InputCheck digests c.args.place) inputs k x.0 c.in_err-edge_of.field-0.0 x.1
    (c.loop-named.invariant.passes inputs digests vertices zip n) (c.in_err-edge_of.ensures.check x.0 digests vertices x.2 n)))

pub loop-named-preserved : goal.loop-named-preserved
loop-named-preserved c =
    let k = c.loop-named.named-index in
    record {
      passes = λ inputs digests vertices zip n.
          let x = all_zip_back NamesAs inputs c.args.all.now k _ zip (slice_get-get_or c.args.all.now k _ c.loop-named-test.true) in
          each_more (InputCheck digests c.args.place) inputs k x.0 x.1
          (c.loop-named.invariant.passes inputs digests vertices zip n) (c.in_ok-edge_of.ensures.check x.0 digests vertices x.2 n);
      edges = λ inputs digests vertices zip n.
          let x = all_zip_back NamesAs inputs c.args.all.now k _ zip (slice_get-get_or c.args.all.now k _ c.loop-named-test.true) in
          subst (AreEdges vertices (take (k + 1) inputs)) (sym c.in_ok-push.ensures.ok)
          (edges_more vertices inputs k x.0 c.loop-named.edges.items c.in_ok-edge_of.field-0 x.1
          (c.loop-named.invariant.edges inputs digests vertices zip n) (c.in_ok-edge_of.ensures.edge x.0 digests vertices x.2 n));
    }

pub returns-clause-check : goal.returns-clause-check
returns-clause-check c = λ inputs digests vertices zip n.
    let len = all_zip_length NamesAs inputs c.args.all.now zip in
    subst (λ (xs : List (Input Text)). Each (InputCheck digests c.args.place) xs None) (take_all c.loop-named.named-index inputs (omega (arith, c.loop-named-test.false)))
    (c.loop-named.invariant.passes inputs digests vertices zip n)

pub returns-clause-edges : goal.returns-clause-edges
returns-clause-edges c = λ inputs digests vertices zip n.
    let len = all_zip_length NamesAs inputs c.args.all.now zip in
    subst (λ (xs : List (Input Text)). AreEdges vertices xs c.loop-named.edges.items) (take_all c.loop-named.named-index inputs (omega (arith, c.loop-named-test.false)))
    (c.loop-named.invariant.edges inputs digests vertices zip n)
