use Rattle.std.proofs.Common.{◌≡◌, ◌⊎◌, ◌-◌, ◌≤◌, ℕ, List, [], length, take, get_or, Ok, Some, sym, ap, ◌∙◌, subst, arith}
use Rattle.std.specs.List.{slice_get}
use Rattle.std.proofs.lemmas.Result.{err_from_is_err_and}
use Rattle.opsproto.specs.Ops.{op_at}
use Rattle.opsproto.specs.Scalars.{Text}
use Rattle.opsproto.specs.declared.input.Input.{Input}
use Rattle.vertices.specs.declared.refusal.LoadRefusal.TheVariants.{OutOfMemory}
use Rattle.vertices.specs.Outcomes.{Meets}
use Rattle.vertices.specs.Loaded.{vertices_in}
use Rattle.vertices.specs.Loading.{digests_in, ReadCheck, GraphCheck, DefinitionCheck}
use Rattle.vertices.proofs.LoadLemmas.{last_split, has_last, entries_refused, last_refused, graph_answers, loaded_numbers, loaded_vertices, definition_vertices, definition_last, answers_weaker, graph_is}
use Rattle.vertices.proofs.loading.load.Goals as goal

pub returns-in_err-loading-clause-check : goal.returns-in_err-loading-clause-check
returns-in_err-loading-clause-check c =
    let p = err_from_is_err_and c.from_residual.result c.from_residual.ensures.1 in
    let def = c.args.definition.def in
    let place = c.in-Some.place in
    let len = c.len.ensures in
    let some : 1 ≤ length def = omega (arith, c.in-Some.ensures.0) in
    let is : place ≡ length def - 1 = omega (arith, c.in-Some.ensures.1) in
    let split = last_split def place (get_or def place []) some is (has_last def place some is) in
    rw (p.1, p.2) (entries_refused (take place def) (get_or def place []) def c.in_err-loading.field-0.0 split.0 c.in_err-loading.ensures.check)

pub returns-in_err-last-clause-check : goal.returns-in_err-last-clause-check
returns-in_err-last-clause-check c =
    let p = err_from_is_err_and c.from_residual-in_err-last.result c.from_residual-in_err-last.ensures.1 in
    let def = c.args.definition.def in
    let place = c.in-Some.place in
    let last = c.body.result.now in
    let len = c.len.ensures in
    let some : 1 ≤ length def = omega (arith, c.in-Some.ensures.0) in
    let is : place ≡ length def - 1 = omega (arith, c.in-Some.ensures.1) in
    let at : slice_get def place ≡ Some last = ap (λ (es : List (List ℕ)). slice_get es place) (sym c.in_ok-loading.ensures.entries) ∙ c.body.ensures in
    let split = last_split def place last some is at in
    let e = c.in_err-last.field-0.0 in
    rw (p.1, p.2) (last_refused (take place def) last def e split.0 c.in_ok-loading.ensures.check
    (subst (λ (n : ℕ). (e ≡ OutOfMemory) ⊎ ReadCheck n last (Some e)) (sym split.1) c.in_err-last.ensures.check))

pub graph-requires : goal.graph-requires
graph-requires c = record { loaded = (take c.in-Some.place c.args.definition.def, c.in_ok-loading.ensures.loaded) }

pub returns-clause-check : goal.returns-clause-check
returns-clause-check c =
    let def = c.args.definition.def in
    let place = c.in-Some.place in
    let last = c.body.result.now in
    let entries = take place def in
    let loading = c.in_ok-loading.loading in
    let loaded = c.in_ok-loading.ensures.loaded in
    let len = c.len.ensures in
    let some : 1 ≤ length def = omega (arith, c.in-Some.ensures.0) in
    let is : place ≡ length def - 1 = omega (arith, c.in-Some.ensures.1) in
    let at : slice_get def place ≡ Some last = ap (λ (es : List (List ℕ)). slice_get es place) (sym c.in_ok-loading.ensures.entries) ∙ c.body.ensures in
    let split = last_split def place last some is at in
    let op = c.in_ok-last.ensures.inputs.0 in
    let read : op_at last ≡ Ok op = c.in_ok-last.ensures.inputs.1 in
    let inputs : c.as_slice.result.now ≡ op.inputs = c.as_slice.ensures ∙ c.in_ok-last.ensures.inputs.2 in
    answers_weaker (GraphCheck (digests_in entries) (length entries) (vertices_in loading) c.as_slice.result.now) (DefinitionCheck def) c.graph.result
    (λ given h. graph_answers entries last def op (vertices_in loading) given split.0 c.in_ok-loading.ensures.check read
    (loaded_vertices entries loading loaded)
    (subst (λ (xs : List (Input Text)). GraphCheck (digests_in entries) (length entries) (vertices_in loading) xs given) inputs h))
    (subst (λ (n : ℕ). Meets (GraphCheck (digests_in entries) n (vertices_in loading) c.as_slice.result.now) c.graph.result) (sym split.1)
    (c.graph.ensures.check (digests_in entries) (loaded_numbers entries loading loaded)))

pub returns-clause-graph : goal.returns-clause-graph
returns-clause-graph c =
    let def = c.args.definition.def in
    let place = c.in-Some.place in
    let last = c.body.result.now in
    let entries = take place def in
    let loading = c.in_ok-loading.loading in
    let len = c.len.ensures in
    let some : 1 ≤ length def = omega (arith, c.in-Some.ensures.0) in
    let is : place ≡ length def - 1 = omega (arith, c.in-Some.ensures.1) in
    let at : slice_get def place ≡ Some last = ap (λ (es : List (List ℕ)). slice_get es place) (sym c.in_ok-loading.ensures.entries) ∙ c.body.ensures in
    let split = last_split def place last some is at in
    let op = c.in_ok-last.ensures.inputs.0 in
    let read : op_at last ≡ Ok op = c.in_ok-last.ensures.inputs.1 in
    let inputs : c.as_slice.result.now ≡ op.inputs = c.as_slice.ensures ∙ c.in_ok-last.ensures.inputs.2 in
    graph_is def (vertices_in loading) c.as_slice.result.now c.graph.result
    (definition_vertices entries last def (vertices_in loading) split.0 (loaded_vertices entries loading c.in_ok-loading.ensures.loaded))
    (definition_last entries last def op split.0 read ∙ sym inputs)
    c.graph.ensures.vertices c.graph.ensures.graph c.graph.ensures.result
