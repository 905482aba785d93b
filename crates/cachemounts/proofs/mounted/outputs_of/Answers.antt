use Rattle.std.proofs.Common.{ℕ, List, take, get_or, sym, subst}
use Rattle.std.proofs.lemmas.Option.{slice_get-get_or}
use Rattle.lists.proofs.Places.{take_push, AllZip-push}
use Rattle.vertices.specs.Edges.{IsEdge}
use Rattle.vertices.proofs.ZipLemmas.{all_zip_back}
use Rattle.cachemounts.specs.CacheFolders.{TakesOutput, TakesOutputs}
use Rattle.cachemounts.proofs.mounted.outputs_of.Goals as goal

pub output_of-requires : goal.output_of-requires
output_of-requires c =
    let edges = c.args.edges.now in
    let k = c.loop-edge.edge-index in
    let found = all_zip_back (IsEdge c.requires.0) c.requires.1 edges k (get_or edges k (0, 0)) c.requires.2 (slice_get-get_or edges k (0, 0) c.loop-edge-test.true) in
    (c.requires.0, found.0, found.2, c.requires.3)

pub loop-edge-preserved : goal.loop-edge-preserved
loop-edge-preserved c =
    let edges = c.args.edges.now in
    let keys = c.args.keys.now in
    let k = c.loop-edge.edge-index in
    let edge = get_or edges k (0, 0) in
    subst (λ (es : List (ℕ × ℕ)). TakesOutputs keys es c.push.new.self.items) (sym (take_push edges k edge (slice_get-get_or edges k (0, 0) c.loop-edge-test.true)))
    (subst (TakesOutputs keys _) (sym c.in_ok-push.ensures.items)
    (AllZip-push (TakesOutput keys) (take k edges) c.loop-edge.outputs.items edge c.output_of.result c.loop-edge.invariant c.output_of.ensures))
