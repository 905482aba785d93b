use Rattle.std.proofs.Common.{◌≡◌, ◌<◌, length, sym, ap, subst, ◌∙◌, arith}
use Rattle.std.specs.List.{slice_get}
use Rattle.std.proofs.lemmas.List.{length-map}
use Rattle.opsproto.specs.Ops.{OpParts, op_in, StandsAt}
use Rattle.ordering.proofs.EntryLemmas.{at_some}
use Rattle.vertices.specs.Sources.{vertex_of}
use Rattle.vertices.specs.Loading.{GraphParts}
use Rattle.vertices.proofs.SharedLemmas.{op_of_source, part_is, read_is}
use Rattle.vertices.proofs.graph.Graph.stripped.Goals as goal

pub returns-in-Some : goal.returns-in-Some
returns-in-Some c = λ vertex at.
    let entries = c.self.inside.entries in
    let sources = c.self.inside.sources.items in
    let len = length-map sources (vertex_of entries) in
    let all : length sources ≡ length c.args.self.now.vertices = sym len ∙ ap (λ (g : GraphParts). length g.vertices) c.self.view_is in
    let less : c.args.number < length sources = omega (arith, all, c.requires) in
    let own = ap (λ (g : GraphParts). slice_get g.vertices c.args.number) c.self.view_is ∙ at in
    let op = op_of_source entries sources c.args.number c.index.result.now vertex c.body-entry.result.now less c.index.ensures c.body-entry.ensures own in
    part_is c.part.result (slice_get entries c.index.result.now.place) c.body-entry.result.now vertex.op.stripped c.in-Some.span.start c.in-Some.span.end c.body-entry.ensures c.part.ensures
    (subst (λ (o : OpParts). StandsAt c.body-entry.result.now o.stripped c.in-Some.span.start c.in-Some.span.end) op
    (at_some c.in_ok-span.field-0 (λ place. StandsAt c.body-entry.result.now (op_in c.body-entry.result.now).stripped place.start place.end) c.in-Some.span c.in_ok-span.ensures c.in-Some.is))

pub returns-in_ok-stripped-in-None : goal.returns-in_ok-stripped-in-None
returns-in_ok-stripped-in-None c = λ vertex at.
    let entries = c.self.inside.entries in
    let sources = c.self.inside.sources.items in
    let len = length-map sources (vertex_of entries) in
    let all : length sources ≡ length c.args.self.now.vertices = sym len ∙ ap (λ (g : GraphParts). length g.vertices) c.self.view_is in
    let less : c.args.number < length sources = omega (arith, all, c.requires) in
    let own = ap (λ (g : GraphParts). slice_get g.vertices c.args.number) c.self.view_is ∙ at in
    let op = op_of_source entries sources c.args.number c.index.result.now vertex c.body-entry.result.now less c.index.ensures c.body-entry.ensures own in
    let same : c.new.result ≡ vertex.op = read_is c.body-entry.result.now c.new.result c.new.ensures ∙ op in
    c.own.ensures ∙ c.in_ok-stripped-in-None.ensures ∙ ap (λ (o : OpParts). o.stripped) same
